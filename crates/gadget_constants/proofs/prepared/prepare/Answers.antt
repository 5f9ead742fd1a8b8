use Rattle.gadget_constants.proofs.Constants.{asked, ready_of, prepared_is}
use Rattle.gadget_constants.proofs.prepared.prepare.Goals as goal

pub overflow_cast-count : goal.overflow_cast-count
overflow_cast-count c = record { fits = (asked c.args.modulus c.args.log c.args.levels _ _ c.size-q.ensures c.requires c.value_bits-bits.ensures).count }

pub overflow_mul-d : goal.overflow_mul-d
overflow_mul-d c = record { fits = (asked c.args.modulus c.args.log c.args.levels _ _ c.size-q.ensures c.requires c.value_bits-bits.ensures).product }

pub overflow_sub-d : goal.overflow_sub-d
overflow_sub-d c = (asked c.args.modulus c.args.log c.args.levels _ _ c.size-q.ensures c.requires c.value_bits-bits.ensures).room

pub wrap_threshold-requires : goal.wrap_threshold-requires
wrap_threshold-requires c = (asked c.args.modulus c.args.log c.args.levels _ _ c.size-q.ensures c.requires c.value_bits-bits.ensures).narrow

pub power-requires : goal.power-requires
power-requires c = (asked c.args.modulus c.args.log c.args.levels _ _ c.size-q.ensures c.requires c.value_bits-bits.ensures).within

pub overflow_sub-result : goal.overflow_sub-result
overflow_sub-result c = rw c.power.ensures (asked c.args.modulus c.args.log c.args.levels _ _ c.size-q.ensures c.requires c.value_bits-bits.ensures).covered

pub overflow_cast-result : goal.overflow_cast-result
overflow_cast-result c = record { fits = rw c.power.ensures (asked c.args.modulus c.args.log c.args.levels _ _ c.size-q.ensures c.requires c.value_bits-bits.ensures).added }

pub power-requires-2 : goal.power-requires-2
power-requires-2 c = (asked c.args.modulus c.args.log c.args.levels _ _ c.size-q.ensures c.requires c.value_bits-bits.ensures).log

pub overflow_sub-result-2 : goal.overflow_sub-result-2
overflow_sub-result-2 c = rw c.power-2.ensures (asked c.args.modulus c.args.log c.args.levels _ _ c.size-q.ensures c.requires c.value_bits-bits.ensures).base

pub returns : goal.returns
returns c =
    let ready = ready_of (asked c.args.modulus c.args.log c.args.levels _ _ c.size-q.ensures c.requires c.value_bits-bits.ensures) _ _ _ c.wrap_threshold.ensures c.power.ensures c.power-2.ensures in
    (ready, prepared_is _ ready)
