-- The parts one after another: where each number of a part stands, and what one part more adds.
-- Rests on Tallies.antt and Each.antt.
use mathlib.Core.List.{List, [], ◌∷◌, ◌++◌, append-nil, append_assoc}
use mathlib.Core.Path.{◌≡◌, sym, ap, ◌∙◌}
use Prim.Native.Nat.{ℕ, zero, suc, ◌+◌, ◌≤◌, ◌<◌}
use native.Mathlib.Decide.{dec_lt}
use native.Mathlib.Numerals.{add-one}
use native.Mathlib.Omega.{arith}
use lib.ListN.{length, get_or-append}
use lib.Seq.{get_or-append-add}
use Rattle.pattern.specs.Flat.{flat, start_of}
use Rattle.pattern.specs.Pattern.{column}
use Rattle.pattern.specs.Places.{at}
use Rattle.pattern.specs.Series.{each, tally}
use Rattle.pattern.proofs.Each.{length_each, each_at, each_more}
use Rattle.pattern.proofs.Tallies.{tally_none, tally_first, tally_same, flat_length}

-- Number `i` of part `k` stands `i` places past the part's start.
pub flat_at : (P : List (List ℕ)) (k i : ℕ) → i < length (column P k) → at (flat P) (start_of P k + i) ≡ at (column P k) i
flat_at [] k i h = absurd (omega arith)
flat_at (l ∷ P) zero i h =
    let e : start_of (l ∷ P) 0 + i ≡ i = omega (arith, tally_none (λ x. length (column (l ∷ P) x))) in
    ap (at (l ++ flat P)) e ∙ get_or-append l (flat P) 0 i h
flat_at (l ∷ P) (suc k) i h =
    let e : start_of (l ∷ P) (suc k) + i ≡ length l + (start_of P k + i) = omega (arith, tally_first (λ x. length (column (l ∷ P) x)) k) in
    ap (at (l ++ flat P)) e ∙ get_or-append-add l (flat P) (start_of P k + i) 0 ∙ flat_at P k i h

-- A place before the end is in some part.
pub record InPart (P : List (List ℕ)) (n q : ℕ) : Type 0 where
  pub part : ℕ
  pub in_range : part < n
  pub from : start_of P part ≤ q
  pub to : q < start_of P (part + 1)

pub in_part : (P : List (List ℕ)) (n q : ℕ) → q < start_of P n → InPart P n q
in_part P zero q h = absurd (omega (arith, tally_none (λ x. length (column P x))))
in_part P (suc n) q h = go (dec_lt q (start_of P n)) (λ u. in_part P n q u)
  where
    go : Dec (q < start_of P n) → (q < start_of P n → InPart P n q) → InPart P (suc n) q
    go (yes u) f = let a = f u in record { part = a.part; in_range = omega (arith, a.in_range); from = a.from; to = a.to }
    go (no u) f = record { part = n; in_range = omega arith; from = omega arith; to = omega (arith, ap (start_of P) (add-one n)) }

flat_last : (P : List (List ℕ)) (l : List ℕ) → flat (P ++ (l ∷ [])) ≡ flat P ++ l
flat_last [] l = append-nil l
flat_last (k ∷ P) l = ap (λ (j : List ℕ). k ++ j) (flat_last P l) ∙ sym (append_assoc k (flat P) l)

-- The parts `f 0 .. f (n - 1)`.
module _ (f : ℕ → List ℕ) where
  pub flat_more : (n : ℕ) → flat (each f (n + 1)) ≡ flat (each f n) ++ f n
  flat_more n = ap flat (each_more f n) ∙ flat_last (each f n) (f n)

  pub each_start : (n k : ℕ) → k ≤ n → start_of (each f n) k ≡ tally (λ i. length (f i)) k
  each_start n k h =
      tally_same (λ i. length (column (each f n) i)) (λ i. length (f i)) k (λ i u. ap length (each_at f n i [] (omega arith)))

  pub flat_start : (n k : ℕ) → k ≤ n → length (flat (each f k)) ≡ start_of (each f n) k
  flat_start n k h =
      flat_length (each f k) ∙ ap (start_of (each f k)) (length_each f k) ∙ each_start k k (omega arith) ∙ sym (each_start n k h)
