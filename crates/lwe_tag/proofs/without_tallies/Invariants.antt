use Rattle.scheme.proofs.InPlace.{Filled}
use Rattle.lwe_tag.specs.Answers.{switched_tags}
use Rattle.lwe_tag.proofs.without_tallies.Given as goal

abbrev pub invariant-loop-tag : goal.invariant-loop-tag
invariant-loop-tag l = Filled (switched_tags l.initial.tags) l.initial.tags l.tags l.tag-index
