-- `whole_input::take_input` meets its contract: what one more read gave stands behind what is there.
use Rattle.std.proofs.Common.{◌≡◌, ℕ, ◌+◌, ◌-◌, ◌≤◌, List, ◌++◌, rules, length, take, drop, sym, ap, ◌∙◌, subst, le_refl, drop_at, length-take-le}
use Rattle.std.proofs.KnownBytes.{Consumes-trans}
use Rattle.std.proofs.lemmas.Slice.{take-put_mid_below}
use Rattle.std.specs.Io.KnownBytes.{Consumes}
use borrow.Rule.Slice.PartMut.{put_mid, post_of}
use lib.Seq.{take-add, take-append-le}
use Rattle.whole_input.proofs.take_input.Goals as goal

behind : (xs ys : List ℕ) (have n k : ℕ) → have ≤ length xs → n ≤ length ys → take (have + n) (put_mid have k xs ys) ≡ take have xs ++ take n ys
behind xs ys have n k within fits =
    let all = put_mid have k xs ys in
    take-add have n all
    ∙ ap (λ l. l ++ take n (drop have all)) (take-put_mid_below have k xs ys have (le_refl have) within)
    ∙ ap (λ l. take have xs ++ take n l) (drop_at (take have xs) (ys ++ post_of have k xs) have (length-take-le have xs within))
    ∙ ap (λ l. take have xs ++ l) (take-append-le n ys (post_of have k xs) fits)

pub loop-have-preserved : goal.loop-have-preserved
loop-have-preserved g c =
    let l = c.loop-have in
    let joined = behind l.input c.read.new.buf l.have c.in-Ok.more (length l.input - l.have) (search rules) c.in-Ok.ensures.bound.0 in
    (search rules, subst (Consumes _ _) (sym joined) (Consumes-trans _ _ _ _ _ l.invariant.1 c.in-Ok.ensures.bytes.0))
