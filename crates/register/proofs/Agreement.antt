-- A row listing is well formed and lists the same entries exactly when it is the columns turned; and where a walk through all
-- columns ends, exactly when each cursor is at its row's end. Rests on Passing.antt and `listing`.
use mathlib.Core.List.{List}
use mathlib.Core.Path.{◌≡◌, sym, ap, ◌∙◌}
use Prim.Native.Nat.{ℕ, ◌+◌, ◌<◌}
use native.Mathlib.Omega.{arith}
use lib.ListN.{length}
use Rattle.pattern.specs.Pattern.{has, column}
use Rattle.pattern.specs.Places.{at}
use Rattle.pattern.specs.Turned.{row_of, SameEntries}
use Rattle.pattern.proofs.Numbers.{numbers_rise}
use Rattle.pattern.proofs.Turning.{rows_same, same_rows}
use Rattle.listing.specs.Listing.{between, parts, Room, Starts, Listing, Good}
use Rattle.listing.specs.Walk.{RowsTurned}
use Rattle.listing.proofs.Between.{between_length}
use Rattle.listing.proofs.Listings.{part_is, part_within, parts_columns, good_columns}
use Rattle.register.proofs.Passing.{Passed}

module _ {m : ℕ} {cs cr : List ℕ} (rs rc : List ℕ) (G : Good m cs cr) where
  pub turned_formed : Starts m rs → RowsTurned m (parts m cs cr) rs rc → Listing m rs rc
  turned_formed S all =
      record { starts_right = S; rise = λ r h. rw (all r h) (numbers_rise (λ c. has (column (parts m cs cr) c) r) m) }

  pub turned_agrees : Starts m rs → RowsTurned m (parts m cs cr) rs rc → SameEntries (parts m cs cr) (parts m rs rc)
  turned_agrees S all =
      rows_same (good_columns G) (parts_columns m rs rc (turned_formed S all)) (λ r h. part_is m rs rc r h ∙ all r h)

  pub agrees_turned : Listing m rs rc → SameEntries (parts m cs cr) (parts m rs rc) → RowsTurned m (parts m cs cr) rs rc
  agrees_turned L same r h = sym (part_is m rs rc r h) ∙ same_rows (good_columns G) (parts_columns m rs rc L) same r h

module _ {m : ℕ} (P : List (List ℕ)) {rs rc next : List ℕ} (R : Room m rs rc) (S : Starts m rs)
    (W : Passed m (at rs) rc (λ r. row_of P r m) next) where
  pub ends_turned : ((r : ℕ) → r < m → at next r ≡ at rs (r + 1)) → RowsTurned m P rs rc
  ends_turned ends r h = ap (λ (b : ℕ). between (at rs r) b rc) (sym (ends r h)) ∙ W.passed r h

  pub turned_ends : RowsTurned m P rs rc → (r : ℕ) → r < m → at next r ≡ at rs (r + 1)
  turned_ends all r h =
      omega (
        arith,
        W.cursors.stand r h,
        S.never_fall r h,
        ap length (all r h),
        between_length (at rs r) (at rs (r + 1)) rc (part_within R S r h).in_list,
      )
