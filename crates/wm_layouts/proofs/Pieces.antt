-- Lists that grew piece by piece.
use Rattle.std.proofs.Common.{◌≡◌, List, [], ◌++◌, refl, append_assoc}

pub joined2 : {A : Type 0} (l0 l1 l2 a b : List A) → l2 ≡ l1 ++ b → l1 ≡ l0 ++ a → l0 ≡ [] → l2 ≡ a ++ b
joined2 l0 l1 l2 a b h1 h0 k =
    let g : ([] ++ a) ++ b ≡ a ++ b = refl in
    cc

pub joined3 : {A : Type 0} (l0 l1 l2 l3 a b c : List A) → l3 ≡ l2 ++ c → l2 ≡ l1 ++ b → l1 ≡ l0 ++ a → l0 ≡ [] → l3 ≡ a ++ (b ++ c)
joined3 l0 l1 l2 l3 a b c h2 h1 h0 k =
    let h : l2 ≡ a ++ b = joined2 l0 l1 l2 a b h1 h0 k in
    let g : (a ++ b) ++ c ≡ a ++ (b ++ c) = simp append_assoc in
    cc

pub joined4 : {A : Type 0} (l0 l1 l2 l3 l4 a b c d : List A) → l4 ≡ l3 ++ d → l3 ≡ l2 ++ c → l2 ≡ l1 ++ b → l1 ≡ l0 ++ a → l0 ≡ [] → l4 ≡ a ++ (b ++ (c ++ d))
joined4 l0 l1 l2 l3 l4 a b c d h3 h2 h1 h0 k =
    let h : l3 ≡ a ++ (b ++ c) = joined3 l0 l1 l2 l3 a b c h2 h1 h0 k in
    let g : (a ++ (b ++ c)) ++ d ≡ a ++ (b ++ (c ++ d)) = simp append_assoc in
    cc

pub joined5 : {A : Type 0} (l0 l1 l2 l3 l4 l5 a b c d e : List A) → l5 ≡ l4 ++ e → l4 ≡ l3 ++ d → l3 ≡ l2 ++ c → l2 ≡ l1 ++ b → l1 ≡ l0 ++ a → l0 ≡ [] → l5 ≡ a ++ (b ++ (c ++ (d ++ e)))
joined5 l0 l1 l2 l3 l4 l5 a b c d e h4 h3 h2 h1 h0 k =
    let h : l4 ≡ a ++ (b ++ (c ++ d)) = joined4 l0 l1 l2 l3 l4 a b c d h3 h2 h1 h0 k in
    let g : (a ++ (b ++ (c ++ d))) ++ e ≡ a ++ (b ++ (c ++ (d ++ e))) = simp append_assoc in
    cc
