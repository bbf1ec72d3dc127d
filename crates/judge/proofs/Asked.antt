-- What may be judged in lent lists may be judged as a pattern; the place of the column. Rests on `pattern`, `listing` and
-- `register`.
use mathlib.Core.Path.{◌≡◌, ap, sym, ◌∙◌}
use native.Mathlib.Omega.{arith}
use Prim.Native.Nat.{◌<◌}
use lib.Seq.{get_or-take}
use Rattle.pattern.specs.Verdict.{size, Taken, col_at, c_place}
use Rattle.pattern.specs.Places.{at, place}
use Rattle.pattern.proofs.Turning.{Columns}
use Rattle.pattern.proofs.Finding.{place_at}
use Rattle.pattern.proofs.Pairing.{col_place}
use Rattle.pattern.proofs.Verdicts.{old_sound}
use Rattle.listing.proofs.Listings.{good_columns}
use Rattle.register.specs.Lent.{columns}
use Rattle.register.proofs.Soundness.{columns_good, register_sound}
use Rattle.judge.specs.Call.{Call, asked}
use Rattle.judge.specs.Judge.{Judgeable}

-- What may be judged in lent lists may be judged as a pattern: the columns list one of the call's size.
module _ {a : Call} (J : Judgeable a) where
  pub call_columns : Columns a.size (columns a.size a.lists)
  call_columns = good_columns (columns_good J.sound)

  pub call_size : size (asked a) ≡ a.size
  call_size = call_columns.size

  pub call_judged : Taken (asked a)
  call_judged =
      record {
        register = register_sound J.sound;
        column_below = omega (arith, call_size, J.column_below);
        new_rise = rw call_size J.new_rise;
      }

  -- The place of c and the row r, read off the lent lists.
  pub placed : (c_place (asked a) < a.size) × (col_at (asked a) (c_place (asked a)) ≡ a.column)
  placed =
      let t = col_place (old_sound (asked a) (call_judged)) a.column call_judged.column_below in
      (omega (arith, t.0, call_size), t.1)

  pub call_place : c_place (asked a) ≡ place (at a.lists.order_cols) a.size a.column
  call_place =
      let cols = a.lists.order_cols in
      sym (place_at J.sound.order.cols (c_place (asked a)) placed.0)
      ∙ ap (place (at cols) a.size) (sym (get_or-take a.size cols (c_place (asked a)) 0 placed.0) ∙ placed.1)
