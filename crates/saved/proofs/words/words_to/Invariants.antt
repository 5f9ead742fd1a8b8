use Rattle.std.proofs.Common.{◌≡◌, ◌<◌, ℕ, get_or}
use Rattle.saved.specs.Layout.{file_word}
use Rattle.saved.proofs.words.words_to.Given as goal

abbrev pub invariant-loop-i : goal.invariant-loop-i
invariant-loop-i g l = (k : ℕ) → k < l.i → get_or l.out k (g.W.SavedWord.kept 0) ≡ g.W.SavedWord.kept (file_word l.bytes k)
