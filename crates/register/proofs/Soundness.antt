-- A sound register in lent lists: no check refuses it, it is a sound register of one pattern, and its row listing is that pattern
-- turned. Rests on specs/Checks.antt, specs/Lent.antt, `pattern` and `listing`.
use mathlib.Core.Logic.{◌≢◌}
use mathlib.Core.Path.{◌≡◌, refl, sym, ◌∙◌}
use Prim.Native.Nat.{ℕ, ◌≤◌, ◌<◌}
use native.Mathlib.Omega.{arith}
use lib.ListN.{length, take}
use lib.Seq.{length-take-le, get_or-take}
use Rattle.pattern.specs.Ladder.{holds}
use Rattle.pattern.specs.Order.{SoundRegister}
use Rattle.pattern.specs.Pattern.{column, Entry}
use Rattle.pattern.specs.Places.{at}
use Rattle.pattern.specs.Turned.{turned}
use Rattle.pattern.proofs.Once.{onto}
use Rattle.pattern.proofs.Pairing.{sound_same}
use Rattle.pattern.proofs.Rungs.{unless_past, unless_held}
use Rattle.pattern.proofs.Tests.{has_among}
use Rattle.pattern.proofs.Turning.{Columns, row_below, turned_only}
use Rattle.listing.specs.Listing.{Good}
use Rattle.listing.proofs.Listings.{good_columns}
use Rattle.register.specs.Checks.{Checks, FirstFault}
use Rattle.register.specs.Lent.{Lists, columns, rows, SoundLists}

-- ---- The checks 1 to 5 of any call

module _ {A : Type 0} {m : ℕ} {l : Lists} (refused : ℕ → A) {rest : A → Type 0} {o : A} where
  -- No check refuses a sound register.
  pub checks_taken : SoundLists m l → rest o → Checks m l refused rest o
  checks_taken s r = holds s.sized (holds s.long (holds s.formed (holds s.agree (holds s.order r))))

  pub checks_held : SoundLists m l → Checks m l refused rest o → rest o
  checks_held s c = unless_held s.order (unless_held s.agree (unless_held s.formed (unless_held s.long (unless_held s.sized c))))

  -- What is no refusal is of a sound register.
  pub checks_past : ((n : ℕ) → 1 ≤ n → o ≢ refused n) → Checks m l refused rest o → SoundLists m l × rest o
  checks_past other c =
      let a = unless_past (other 1 (omega arith)) c in
      let b = unless_past (other 2 (omega arith)) a.1 in
      let f = unless_past (other 3 (omega arith)) b.1 in
      let g = unless_past (other 4 (omega arith)) f.1 in
      let t = unless_past (other 5 (omega arith)) g.1 in
      (record { sized = a.0; long = b.0; formed = f.0; agree = g.0; order = t.0 }, t.1)

-- The check replies 'sound' exactly for a sound register.
pub no_fault : (m : ℕ) (l : Lists) → SoundLists m l → FirstFault m l 0
no_fault m l s = checks_taken (λ n. n) s refl

pub fault_none : (m : ℕ) (l : Lists) → FirstFault m l 0 → SoundLists m l
fault_none m l f = (checks_past (λ n. n) (λ n h e. omega arith) f).0

-- ---- A sound register

module _ {m : ℕ} {l : Lists} (s : SoundLists m l) where
  pub columns_good : Good m l.col_starts l.col_rows
  columns_good = record { small = s.sized.1; room = s.long.columns_fit; formed = s.formed.columns_formed }

  pub rows_good : Good m l.row_starts l.row_cols
  rows_good = record { small = s.sized.1; room = s.long.rows_fit; formed = s.formed.rows_formed }

  -- The row listing is the pattern of the column listing, turned.
  pub rows_turned : rows m l ≡ turned m (columns m l)
  rows_turned = turned_only (good_columns columns_good) (good_columns rows_good) s.agree

  -- The pattern and the order are a sound register.
  pub register_sound : SoundRegister (columns m l) (take m l.order_rows) (take m l.order_cols)
  register_sound =
      record {
        rows_below = λ r c e. omega (arith, row_below C r c e, C.size);
        order = record {
          row_count = length-take-le m l.order_rows s.long.order_rows_fit ∙ sym C.size;
          col_count = length-take-le m l.order_cols s.long.order_cols_fit ∙ sym C.size;
          sound = rw C.size (sound_same (λ t h. sym (get_or-take m l.order_rows t 0 h)) (λ t h. sym (get_or-take m l.order_cols t 0 h)) s.order);
        };
      }
    where
      C : Columns m (columns m l)
      C = good_columns columns_good

  -- No column is empty.
  pub none_empty : (c : ℕ) → c < m → 0 < length (column (columns m l) c)
  none_empty c h =
      let a = onto s.order.cols c h in
      let e : Entry (columns m l) (at l.order_rows a.0) c = rw a.2 at (s.order.paired a.0 a.1) in
      let b = has_among (column (columns m l) c) (at l.order_rows a.0) e in
      omega (arith, b.1)
