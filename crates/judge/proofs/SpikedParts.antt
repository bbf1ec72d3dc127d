-- The columns of a spiked pattern, read off the lists of the column listing. Rests on specs/Peel.antt, `pattern` and `listing`.
use mathlib.Core.List.{List}
use mathlib.Core.Logic.{◌≢◌}
use mathlib.Core.Path.{◌≡◌, sym, ap, ◌∙◌, subst}
use Prim.Native.Nat.{ℕ, ◌<◌}
use native.Mathlib.Decide.{ℕ_discrete}
use native.Mathlib.Omega.{arith}
use lib.Dec.{T}
use Rattle.pattern.specs.Pattern.{has, column, Entry, Spiked}
use Rattle.pattern.specs.Rising.{Rising}
use Rattle.pattern.proofs.Clearing.{new_column, old_column, spiked_columns_rise}
use Rattle.pattern.proofs.Tests.{choose_same, choose_other}
use Rattle.pattern.proofs.Turning.{Columns}
use Rattle.listing.specs.Listing.{part, parts, Good}
use Rattle.listing.proofs.Listings.{part_is, good_columns}
use Rattle.judge.specs.Peel.{spiked, spiked_part}

module _ (cs cr : List ℕ) (c : ℕ) (new : List ℕ) (y : ℕ) where
  part_new : y ≡ c → spiked_part cs cr c new y ≡ new
  part_new e = choose_same y c new (part cs cr y) e

  part_old : y ≢ c → spiked_part cs cr c new y ≡ part cs cr y
  part_old n = choose_other y c new (part cs cr y) n

module _ {m : ℕ} {cs cr : List ℕ} {c : ℕ} {new : List ℕ} (G : Good m cs cr) (h : c < m) (R : Rising m new) where
  pub spiked_new : column (spiked m cs cr c new) c ≡ new
  spiked_new = new_column (parts m cs cr) c new (omega (arith, (good_columns G).size))

  pub spiked_is : (y : ℕ) → y < m → column (spiked m cs cr c new) y ≡ spiked_part cs cr c new y
  spiked_is y u = go (ℕ_discrete y c)
    where
      go : Dec (y ≡ c) → column (spiked m cs cr c new) y ≡ spiked_part cs cr c new y
      go (yes e) = ap (column (spiked m cs cr c new)) e ∙ spiked_new ∙ sym (part_new cs cr c new y e)
      go (no n) = old_column (parts m cs cr) c new y n ∙ part_is m cs cr y u ∙ sym (part_old cs cr c new y n)

  pub spiked_columns : Columns m (spiked m cs cr c new)
  spiked_columns = spiked_columns_rise (good_columns G) h R

  -- It is the old pattern with column `c` exchanged.
  pub spiked_pattern : Spiked (Entry (parts m cs cr)) (Entry (spiked m cs cr c new)) c (λ r. T (has new r))
  spiked_pattern =
      record {
        others = λ r y n.
            let e = old_column (parts m cs cr) c new y n in
            (λ t. rw e t, λ t. subst (λ (l : List ℕ). T (has l r)) e t);
        changed = λ r. (λ t. subst (λ (l : List ℕ). T (has l r)) spiked_new t, λ t. rw spiked_new t);
      }

  -- Each column, read off the lists, rises.
  pub spiked_part_rises : (y : ℕ) → y < m → Rising m (spiked_part cs cr c new y)
  spiked_part_rises y u = subst (Rising m) (spiked_is y u) (spiked_columns.rise y u)
