use Rattle.key_switch_native.proofs.Rows.{less_none}
use Rattle.key_switch_native.proofs.NativeKernelKernel.take_away.Goals as goal

pub returns-in-0 : goal.returns-in-0
returns-in-0 c = less_none _ _ _ _ _ c.in-0.is
