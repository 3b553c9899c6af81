-- The bytes that are known of a writer, over one step of a loop after another.
use Rattle.std.proofs.Common.{◌≡◌, sym, ap, ◌∙◌, ℕ, List, [], ◌++◌, Option, Some, None, length, take, drop, append_assoc, append-nil, take-append-drop, ◌-◌, length-drop}
use Rattle.std.proofs.Math.Seq.{take-append_seam, take-length}
use Rattle.std.specs.Io.KnownBytes.{Keeps, Appends}

pub appends-none : (held : Option (List ℕ)) → Appends held held []
appends-none None = tt
appends-none (Some xs) = sym (append-nil xs)

pub appends-kept : (held after : Option (List ℕ)) → Keeps held after → Appends held after []
appends-kept None after kept = tt
appends-kept (Some xs) None kept = absurd kept
appends-kept (Some xs) (Some ys) kept = kept ∙ sym (append-nil xs)

-- what two writes left, one after the other
pub appends-append : (a b c : Option (List ℕ)) (x y : List ℕ) → Appends a b x → Appends b c y → Appends a c (x ++ y)
appends-append None b c x y first then = tt
appends-append (Some xs) None c x y first then = absurd first
appends-append (Some xs) (Some ys) None x y first then = absurd then
appends-append (Some xs) (Some ys) (Some zs) x y first then = then ∙ ap (λ l. l ++ y) first ∙ append_assoc xs x y

-- a write that was cut short left a prefix of the bytes
pub prefix-left : (before between after : Option (List ℕ)) (bytes done rest : List ℕ) → bytes ≡ done ++ rest → Appends before between done → Appends between after [] → (k : ℕ) × Appends before after (take k bytes)
prefix-left before between after bytes done rest split first then =
    (length done, rw (split, take-append_seam done rest, ← append-nil done) (appends-append before between after done [] first then))

-- a write that took the front of the rest
pub more-written : (before between after : Option (List ℕ)) (bytes done rest left : List ℕ) (n : ℕ) → bytes ≡ done ++ rest → Appends before between done → Appends between after (take n rest) → left ≡ drop n rest → (x : List ℕ) × (bytes ≡ x ++ left) × Appends before after x
more-written before between after bytes done rest left n split first then is =
    (done ++ take n rest, split ∙ ap (λ r. done ++ r) (sym (take-append-drop n rest) ∙ ap (λ r. take n rest ++ r) (sym is)) ∙ sym (append_assoc done (take n rest) left), appends-append before between after done (take n rest) first then)

-- what is left behind the front, as a slice from there to the end
pub rest-whole : (xs : List ℕ) (n : ℕ) → take (length xs - n) (drop n xs) ≡ drop n xs
rest-whole xs n = ap (λ k. take k (drop n xs)) (sym (length-drop n xs)) ∙ take-length (drop n xs)
