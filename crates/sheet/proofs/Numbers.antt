-- The groups of a number by its three cases, how many there are, and how they are put one by one. Rests on specs/Number.antt,
-- `listing` and `text`.
use mathlib.Core.List.{List, [], ◌∷◌}
use mathlib.Core.Path.{◌≡◌, refl, sym, ap, ◌∙◌, subst}
use Prim.Native.Nat.{ℕ, ◌+◌, ◌/◌, ◌%◌, ◌≤◌, ◌<◌}
use native.Mathlib.Decide.{dec_lt}
use native.Mathlib.Omega.{arith}
use lib.ListN.{length, set}
use lib.Seq.{get_or-set_other, set-get_or}
use borrow.Author.Tests.{lt-ltb, le-ltb}
use Rattle.pattern.specs.Places.{at}
use Rattle.listing.specs.Held.{put}
use Rattle.listing.proofs.Puts.{put_none, put_more}
use Rattle.text.specs.Puts.{Puts}
use Rattle.sheet.specs.Number.{groups}

-- ---- The cases

module _ (n : ℕ) where
  -- What holds of one group, of two and of three, each in its range, holds of the groups.
  pub by_groups : (F : List ℕ → Type 0) → (n < 128 → F (n ∷ [])) → (128 ≤ n → n < 16384 → F ((128 + n % 128) ∷ (n / 128) ∷ []))
      → (16384 ≤ n → F ((128 + n % 128) ∷ (128 + n / 128 % 128) ∷ (n / 16384) ∷ [])) → F (groups n)
  unfolding groups
  by_groups F one two three = go (dec_lt n 128) (dec_lt n 16384)
    where
      go : Dec (n < 128) → Dec (n < 16384) → F (groups n)
      go (yes h) d = rw (lt-ltb n 128 h) (one h)
      go (no h) (yes u) = rw (le-ltb n 128 (omega arith), lt-ltb n 16384 u) (two (omega arith) u)
      go (no h) (no u) = rw (le-ltb n 128 (omega arith), le-ltb n 16384 (omega arith)) (three (omega arith))

  pub groups_one : n < 128 → groups n ≡ n ∷ []
  groups_one h = by_groups (λ l. l ≡ n ∷ []) (λ _. refl) (λ a _. absurd (omega arith)) (λ a. absurd (omega arith))

  pub groups_two : 128 ≤ n → n < 16384 → groups n ≡ (128 + n % 128) ∷ (n / 128) ∷ []
  groups_two a b = by_groups (λ l. l ≡ (128 + n % 128) ∷ (n / 128) ∷ []) (λ h. absurd (omega arith)) (λ _ _. refl) (λ h. absurd (omega arith))

  pub groups_three : 16384 ≤ n → groups n ≡ (128 + n % 128) ∷ (128 + n / 128 % 128) ∷ (n / 16384) ∷ []
  groups_three a =
      by_groups (λ l. l ≡ (128 + n % 128) ∷ (128 + n / 128 % 128) ∷ (n / 16384) ∷ []) (λ h. absurd (omega arith)) (λ _ h. absurd (omega arith)) (λ _. refl)

  -- There are one, two or three.
  pub groups_some : 1 ≤ length (groups n)
  groups_some = by_groups (λ l. 1 ≤ length l) (λ _. omega arith) (λ _ _. omega arith) (λ _. omega arith)

  pub groups_few : length (groups n) ≤ 3
  groups_few = by_groups (λ l. length l ≤ 3) (λ _. omega arith) (λ _ _. omega arith) (λ _. omega arith)

  pub groups_short : n < 16384 → length (groups n) ≤ 2
  groups_short h = by_groups (λ l. length l ≤ 2) (λ _. omega arith) (λ _ _. omega arith) (λ a. absurd (omega arith))

-- ---- Put one by one

module _ (n : ℕ) (l : List ℕ) (k : ℕ) (room : k + length (groups n) ≤ length l) where
  set_one : (a : ℕ) → set l k a ≡ put k (a ∷ []) l
  set_one a = ap (λ (j : List ℕ). set j k a) (sym (put_none k l)) ∙ put_more k [] l k a (omega arith) (omega (arith, groups_some n))

  set_two : (a b : ℕ) → k + 1 < length l → set (set l k a) (k + 1) b ≡ put k (a ∷ b ∷ []) l
  set_two a b h = ap (λ (j : List ℕ). set j (k + 1) b) (set_one a) ∙ put_more k (a ∷ []) l (k + 1) b (omega arith) h

  pub put_one : n < 128 → Puts k (groups n) l (k + 1) (set l k n)
  put_one h = rw (groups_one n h) (record { after = refl; stand = set_one n })

  -- One, and what stands behind it put there again.
  pub put_one_kept : n < 128 → Puts k (groups n) l (k + 1) (set (set l k n) (k + 1) (at l (k + 1)))
  put_one_kept h =
      let e = sym (get_or-set_other l k (k + 1) n 0 (λ z. omega arith)) in
      subst (Puts k (groups n) l (k + 1)) (sym (ap (set (set l k n) (k + 1)) e ∙ set-get_or (set l k n) (k + 1) 0)) (put_one h)

  pub put_two : 128 ≤ n → n < 16384 → Puts k (groups n) l (k + 2) (set (set l k (128 + n % 128)) (k + 1) (n / 128))
  put_two a b =
      let e = groups_two n a b in
      rw e (record { after = refl; stand = set_two (128 + n % 128) (n / 128) (omega (arith, ap length e)) })

  pub put_three : 16384 ≤ n → Puts k (groups n) l (k + 3) (set (set (set l k (128 + n % 128)) (k + 1) (128 + n / 128 % 128)) (k + 2) (n / 16384))
  put_three a =
      let e = groups_three n a in
      let x = 128 + n % 128 in
      let y = 128 + n / 128 % 128 in
      rw e
      (record {
        after = refl;
        stand =
            ap (λ (j : List ℕ). set j (k + 2) (n / 16384)) (set_two x y (omega (arith, ap length e)))
            ∙ put_more k (x ∷ y ∷ []) l (k + 2) (n / 16384) (omega arith) (omega (arith, ap length e));
      })
