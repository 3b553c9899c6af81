-- Lines that are looked at one after another.
use Rattle.std.proofs.Common.{◌≡◌, ℕ, zero, suc, ◌+◌, ◌<◌, ◌≤◌, List, [], ◌∷◌, map, length, get_or, refl, ap, sym, ◌∙◌, arith}
use Rattle.std.proofs.Math.ListN.{set}
use Rattle.wm_arrays.specs.declared.state_line.StateLine.{StateLine}
use Rattle.wm_observe.specs.Lines.{Line, line_of, lines_of}

-- those from a number on are still to be looked at
abbrev pub left : (Line → Line) → ℕ → List StateLine → List Line
left f zero [] = []
left f zero (line ∷ lines) = f (line_of line) ∷ left f zero lines
left f (suc k) [] = []
left f (suc k) (line ∷ lines) = line_of line ∷ left f k lines

pub all_left : (f : Line → Line) (lines : List StateLine) → left f 0 lines ≡ map f (lines_of lines)
all_left f [] = refl
all_left f (line ∷ lines) = ap (λ rest. f (line_of line) ∷ rest) (all_left f lines)

pub none_left : (f : Line → Line) (k : ℕ) (lines : List StateLine) → length lines ≤ k → left f k lines ≡ lines_of lines
none_left f k [] h = none k
  where
    none : (k : ℕ) → left f k [] ≡ []
    none zero = refl
    none (suc k) = refl
none_left f zero (line ∷ lines) h = absurd (omega (arith, h))
none_left f (suc k) (line ∷ lines) h = ap (λ rest. line_of line ∷ rest) (none_left f k lines (omega (arith, h)))

one_left : (f : Line → Line) (k : ℕ) (lines : List StateLine) (old new : StateLine) → k < length lines → old ≡ get_or lines k old → line_of new ≡ f (line_of old) → left f (suc k) (set lines k new) ≡ left f k lines
one_left f k [] old new h is e = absurd (omega (arith, h))
one_left f zero (line ∷ lines) old new h is e =
    ap (λ (x : Line). x ∷ left f zero lines) (e ∙ ap (λ (x : StateLine). f (line_of x)) is)
one_left f (suc k) (line ∷ lines) old new h is e =
    ap (λ rest. line_of line ∷ rest) (one_left f k lines old new (omega (arith, h)) is e)

pub one_more : (f : Line → Line) (k : ℕ) (lines : List StateLine) (old new : StateLine) → k < length lines → old ≡ get_or lines k old → line_of new ≡ f (line_of old) → left f (k + 1) (set lines k new) ≡ left f k lines
one_more f k lines old new h is e =
    let same : k + 1 ≡ suc k = omega arith in
    ap (λ (n : ℕ). left f n (set lines k new)) same ∙ one_left f k lines old new h is e
