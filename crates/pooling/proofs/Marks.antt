-- What each place of a total carries: what its first file says, and after an accepted file the scheme's sum. So `carried_sum` and
-- `carried_opens` of scheme hold of it: a total that is marked good opens to the sum of its messages modulo t, whatever was rounded.
--     begun_carried    what the first file's carries
--     added_carried    the sum of two
-- Assumes nothing.
use Rattle.std.proofs.Common.{◌≡◌, sym, ap, ◌∙◌, false, ◌||◌, List, ℕ, ◌<◌, length}
use Rattle.scheme.specs.Tally.{add_carried, carried_fails}
use Rattle.scheme.proofs.Order.{neither}
use Rattle.scheme.proofs.Lists.{tabulate_at}
use Rattle.lwe_tag.specs.declared.LweTag.{LweTag}
use Rattle.lwe_tag.specs.Answers.{cap, carried_of, tag_fails, untallied}
use Rattle.lwe_tag.proofs.Laws.{tag_back}
use Rattle.saved.specs.Layout.{saved_carried, saved_tag}
use Rattle.saved.proofs.Tags.{saved_fails, saved_is}
use Rattle.pooling_rows.specs.Rows.{place_tag, place_sum, places_fail, saved_fail, add_tags, saved_tags}
use Rattle.pooling.proofs.Laws.{place_ok, saved_ok}

-- what the file says, where 17 does not apply to it
held : (s : List ℕ) (i : ℕ) → tag_fails (saved_tag s i) ≡ false → carried_of (saved_tag s i) ≡ saved_carried s i
held s i h = saved_is s i (sym (saved_fails s i) ∙ h)

pub begun_carried : (k : ℕ) (s : List ℕ) (i : ℕ) → saved_fail k s ≡ false → i < k → carried_of (place_tag (saved_tags k s) i) ≡ saved_carried s i
begun_carried k s i e h = ap carried_of (tabulate_at untallied k (saved_tag s) i h) ∙ held s i (saved_ok k s i e h)

pub added_carried : (ts : List LweTag) (s : List ℕ) (i : ℕ) → places_fail ts s ≡ false → i < length ts
    → carried_of (place_tag (add_tags ts s) i) ≡ add_carried (carried_of (place_tag ts i)) (saved_carried s i)
added_carried ts s i e h =
    let x = place_tag ts i in
    let y = saved_tag s i in
    let sum = add_carried (carried_of x) (carried_of y) in
    let two = (neither (tag_fails x) (carried_fails cap sum || tag_fails y) (place_ok ts s i e h)).1 in
    let one = neither (tag_fails y) (carried_fails cap sum) two in
    ap carried_of (tabulate_at untallied (length ts) (place_sum ts s) i h)
    ∙ tag_back sum one.1
    ∙ ap (add_carried (carried_of x)) (held s i one.0)
