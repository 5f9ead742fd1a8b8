use Rattle.saved_head.specs.Head.{head_of, kind_of}
use Rattle.saved_head.proofs.Laws.{ciphertexts_is, packed_is, unknown_is}
use Rattle.saved_head.proofs.head.file_refused.Goals as goal

pub returns : goal.returns
unfolding head_of
returns c =
    let k = kind_of c.args.bytes.now in
    rw (
      c.signature_unknown.ensures,
      c.is_unknown.ensures,
      c.beside_refused.ensures,
      c.kept_used.ensures,
      c.size_differs.ensures,
      c.head_of-h.ensures,
      ciphertexts_is k,
      packed_is k,
      unknown_is k,
    )
