-- The theorems of the seven-bit number: its groups have the form, say the number, and are the shortest that do; and no number's
-- groups begin another's. Rests on Numbers.antt.
use mathlib.Core.List.{List, [], ◌∷◌, ◌++◌}
use mathlib.Core.Path.{◌≡◌, ap, ◌∙◌, sym}
use Prim.Native.Nat.{ℕ, zero, suc, ◌+◌, ◌≤◌, ◌<◌}
use native.Mathlib.Omega.{arith}
use lib.ListN.{length}
use Rattle.pattern.specs.Places.{at}
use Rattle.sheet.specs.Number.{max_number, groups, weighed, Grouped}
use Rattle.sheet.proofs.Numbers.{by_groups}

-- ---- The form

one_grouped : {a : ℕ} → a < 128 → Grouped (a ∷ [])
one_grouped {a} h =
    record { some = omega arith; few = omega arith; bytes = bytes; more = λ i u. absurd (omega arith); last = last }
  where
    bytes : (i : ℕ) → i < 1 → at (a ∷ []) i < 256
    bytes zero u = omega arith
    bytes (suc i) u = absurd (omega arith)

    last : (i : ℕ) → i + 1 ≡ 1 → at (a ∷ []) i < 128
    last zero u = h
    last (suc i) u = absurd (omega arith)

-- A group before them.
more_grouped : {a : ℕ} {l : List ℕ} → 128 ≤ a → a < 256 → length l ≤ 2 → Grouped l → Grouped (a ∷ l)
more_grouped {a} {l} low high short G =
    record { some = omega arith; few = omega arith; bytes = bytes; more = more; last = last }
  where
    bytes : (i : ℕ) → i < suc (length l) → at (a ∷ l) i < 256
    bytes zero u = high
    bytes (suc i) u = G.bytes i (omega arith)

    more : (i : ℕ) → i + 1 < suc (length l) → 128 ≤ at (a ∷ l) i
    more zero u = low
    more (suc i) u = G.more i (omega arith)

    last : (i : ℕ) → i + 1 ≡ suc (length l) → at (a ∷ l) i < 128
    last zero u = absurd (omega (arith, G.some))
    last (suc i) u = G.last i (omega arith)

pub groups_form : (n : ℕ) → n ≤ max_number → Grouped (groups n)
groups_form n h =
    by_groups n Grouped
    (λ a. one_grouped a)
    (λ a b. more_grouped (omega arith) (omega arith) (omega arith) (one_grouped (omega arith)))
    (λ a. more_grouped (omega arith) (omega arith) (omega arith) (more_grouped (omega arith) (omega arith) (omega arith) (one_grouped (omega arith))))

-- ---- What they say

pub groups_say : (n : ℕ) → n ≤ max_number → weighed (groups n) ≡ n
unfolding weighed
groups_say n h = by_groups n (λ l. weighed l ≡ n) (λ a. omega arith) (λ a b. omega arith) (λ a. omega arith)

-- Groups that say a number are not fewer.
pub groups_shortest : (n g : ℕ) (l : List ℕ) → weighed (g ∷ l) ≡ n → length (groups n) ≤ suc (length l)
unfolding weighed
groups_shortest n g [] e = by_groups n (λ k. length k ≤ 1) (λ a. omega arith) (λ a b. absurd (omega arith)) (λ a. absurd (omega arith))
groups_shortest n g (a ∷ []) e = by_groups n (λ k. length k ≤ 2) (λ a. omega arith) (λ a b. omega arith) (λ a. absurd (omega arith))
groups_shortest n g (a ∷ b ∷ l) e = by_groups n (λ k. length k ≤ suc (suc (suc (length l)))) (λ a. omega arith) (λ a b. omega arith) (λ a. omega arith)

-- ---- No groups begin others

behind : {a b : ℕ} {l : List ℕ} → Grouped (a ∷ b ∷ l) → Grouped (b ∷ l)
behind G =
    record {
      some = omega arith;
      few = omega (arith, G.few);
      bytes = λ i u. G.bytes (suc i) (omega arith);
      more = λ i u. G.more (suc i) (omega arith);
      last = λ i u. G.last (suc i) (omega arith);
    }

grouped_apart : (k l r t : List ℕ) → Grouped k → Grouped l → k ++ r ≡ l ++ t → (k ≡ l) × (r ≡ t)
grouped_apart [] l r t G H e = absurd (omega (arith, G.some))
grouped_apart (a ∷ k) [] r t G H e = absurd (omega (arith, H.some))
grouped_apart (a ∷ []) (b ∷ []) r t G H e = (cc, cc)
grouped_apart (a ∷ []) (b ∷ d ∷ l) r t G H e = let u : a ≡ b = cc in absurd (omega (arith, G.last 0 (omega arith), H.more 0 (omega arith)))
grouped_apart (a ∷ c ∷ k) (b ∷ []) r t G H e = let u : a ≡ b = cc in absurd (omega (arith, H.last 0 (omega arith), G.more 0 (omega arith)))
grouped_apart (a ∷ c ∷ k) (b ∷ d ∷ l) r t G H e = let u = grouped_apart (c ∷ k) (d ∷ l) r t (behind G) (behind H) (cc) in (cc u.0, u.1)

pub groups_apart : (a b : ℕ) (r t : List ℕ) → a ≤ max_number → b ≤ max_number → groups a ++ r ≡ groups b ++ t → (a ≡ b) × (r ≡ t)
groups_apart a b r t h u e =
    let s = grouped_apart (groups a) (groups b) r t (groups_form a h) (groups_form b u) e in
    (sym (groups_say a h) ∙ ap weighed s.0 ∙ groups_say b u, s.1)

-- ---- No others are as short

grouped_same : (k l : List ℕ) → Grouped k → Grouped l → length k ≡ length l → weighed k ≡ weighed l → k ≡ l
unfolding weighed
grouped_same [] l G H n e = absurd (omega (arith, G.some))
grouped_same (a ∷ k) [] G H n e = absurd (omega (arith, H.some))
grouped_same (a ∷ []) (b ∷ []) G H n e = let u : a ≡ b = omega (arith, G.last 0 (omega arith), H.last 0 (omega arith)) in cc
grouped_same (a ∷ []) (b ∷ d ∷ l) G H n e = absurd (omega arith)
grouped_same (a ∷ c ∷ k) (b ∷ []) G H n e = absurd (omega arith)
grouped_same (a ∷ c ∷ k) (b ∷ d ∷ l) G H n e =
    let u : a ≡ b = omega (arith, G.more 0 (omega arith), H.more 0 (omega arith), G.bytes 0 (omega arith), H.bytes 0 (omega arith)) in
    let v = grouped_same (c ∷ k) (d ∷ l) (behind G) (behind H) (omega arith) (omega arith) in
    cc

-- Of a number's groups in the form only these are as few.
pub groups_only : (n : ℕ) (l : List ℕ) → n ≤ max_number → Grouped l → weighed l ≡ n → length l ≤ length (groups n) → l ≡ groups n
groups_only n [] h G e s = absurd (omega (arith, G.some))
groups_only n (g ∷ l) h G e s =
    grouped_same (g ∷ l) (groups n) G (groups_form n h) (omega (arith, groups_shortest n g l e)) (e ∙ sym (groups_say n h))
