-- Loops that take the last of those that are left: one turn of each.
use Rattle.std.proofs.Common.{◌≡◌, ℕ, suc, ◌+◌, ◌<◌, List, [], ◌∷◌, ◌++◌, length, take, get_or, Option, refl, ap, sym, ◌∙◌, arith}
use Rattle.std.proofs.Math.ListN.{set}
use Rattle.std.proofs.lemmas.List.{take_more, length-take}
use Rattle.wm_ways.specs.declared.ways.Way.{Way}
use Rattle.wm_ways.specs.declared.ways.Turning.{Turning}
use Rattle.wm_ways.specs.Sweeps.{relaxed, swept}
use Rattle.wm_ways.specs.Loops.{firsts_from, with_turns, filled}

swept_last : (first : ℕ) (added : List ℕ) (ways : List Way) (way : Way) (best : List (Option ℕ)) → swept first added (ways ++ way ∷ []) best ≡ swept first added ways (relaxed first added way best)
swept_last first added [] way best = refl
swept_last first added (w ∷ rest) way best = ap (relaxed first added w) (swept_last first added rest way best)

filled_last : (ways : List Way) (firsts : List ℕ) (marks : List (Option Turning)) (mark : Option Turning) (added : List ℕ) → filled ways firsts (marks ++ mark ∷ []) added ≡ filled ways firsts marks (with_turns ways firsts mark added)
filled_last ways firsts [] mark added = refl
filled_last ways firsts (m ∷ rest) mark added = ap (with_turns ways firsts m) (filled_last ways firsts rest mark added)

firsts_last : (number : ℕ) (ways : List Way) (way : Way) (firsts : List ℕ) → firsts_from number (ways ++ way ∷ []) firsts ≡ firsts_from number ways (set firsts way.source (number + length ways))
firsts_last number [] way firsts = ap (set firsts way.source) (omega arith)
firsts_last number (w ∷ rest) way firsts =
    ap (λ (t : List ℕ). set t w.source number) (firsts_last (suc number) rest way firsts ∙ ap (λ (n : ℕ). firsts_from (suc number) rest (set firsts way.source n)) (omega arith))

-- the last of those that are left
taken_last : {X : Type 0} (xs : List X) (left : ℕ) (x : X) → left < length xs → x ≡ get_or xs left x → take (left + 1) xs ≡ take left xs ++ x ∷ []
taken_last xs left x h e = take_more xs left x h ∙ ap (λ y. take left xs ++ y ∷ []) (sym e)

pub swept_turn : (first : ℕ) (added : List ℕ) (ways : List Way) (way : Way) (m left : ℕ) (best : List (Option ℕ)) → m ≡ left + 1 → left < length ways → way ≡ get_or ways left way → swept first added (take left ways) (relaxed first added way best) ≡ swept first added (take m ways) best
swept_turn first added ways way m left best e inside is =
    sym (ap (λ (n : ℕ). swept first added (take n ways) best) e ∙ (ap (λ (ws : List Way). swept first added ws best) (taken_last ways left way inside is) ∙ swept_last first added (take left ways) way best))

pub filled_turn : (ways : List Way) (firsts : List ℕ) (marks : List (Option Turning)) (mark : Option Turning) (m left : ℕ) (added : List ℕ) → m ≡ left + 1 → left < length marks → mark ≡ get_or marks left mark → filled ways firsts (take left marks) (with_turns ways firsts mark added) ≡ filled ways firsts (take m marks) added
filled_turn ways firsts marks mark m left added e inside is =
    sym (ap (λ (n : ℕ). filled ways firsts (take n marks) added) e ∙ (ap (λ (ms : List (Option Turning)). filled ways firsts ms added) (taken_last marks left mark inside is) ∙ filled_last ways firsts (take left marks) mark added))

pub firsts_turn : (ways : List Way) (way : Way) (m left : ℕ) (firsts : List ℕ) → m ≡ left + 1 → left < length ways → way ≡ get_or ways left way → firsts_from 0 (take left ways) (set firsts way.source left) ≡ firsts_from 0 (take m ways) firsts
firsts_turn ways way m left firsts e inside is =
    let count : 0 + length (take left ways) ≡ left = omega (arith, length-take left ways) in
    sym (ap (λ (n : ℕ). firsts_from 0 (take n ways) firsts) e
    ∙ (ap (λ (ws : List Way). firsts_from 0 ws firsts) (taken_last ways left way inside is)
    ∙ (firsts_last 0 (take left ways) way firsts ∙ ap (λ (n : ℕ). firsts_from 0 (take left ways) (set firsts way.source n)) count)))
