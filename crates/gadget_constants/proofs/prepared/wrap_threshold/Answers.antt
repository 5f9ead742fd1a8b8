use Rattle.std.proofs.Common.{◌*◌, ◌^◌, max, refl}
use Rattle.scheme.specs.Basis.{bound_of}
use Rattle.gadget_constants.proofs.Constants.{Steps, threshold_steps}
use Rattle.gadget_constants.proofs.prepared.wrap_threshold.Goals as goal

from_one : (c : goal.After-power-base) → Steps c.args.log c.args.levels c.args.d c.power-base.result (2 ^ (c.args.levels * c.args.log)) (2 ^ c.args.d) (max (bound_of c.args.d) 1)
from_one c = threshold_steps _ _ _ _ _ _ _ c.requires c.power-base.ensures refl refl refl

from-two : (c : goal.After-power) → Steps c.args.log c.args.levels c.args.d c.power-base.result c.power.result (2 ^ c.args.d) (max (bound_of c.args.d) 1)
from-two c = threshold_steps _ _ _ _ _ _ _ c.requires c.power-base.ensures c.power.ensures refl refl

pub overflow_sub-largest : goal.overflow_sub-largest
overflow_sub-largest c = (from_one c).half

pub nonzero_div-largest-2 : goal.nonzero_div-largest-2
nonzero_div-largest-2 c = (from-two c).divisor
