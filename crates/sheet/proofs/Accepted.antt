-- A record that lies in bytes: its numbers are in range, and a pass that reads its size again finds its columns and its order.
-- Rests on Formed.antt and SheetWritten.antt.
use mathlib.Core.List.{List}
use mathlib.Core.Path.{◌≡◌, sym, ◌∙◌}
use Prim.Native.Nat.{ℕ}
use lib.ListN.{length}
use Rattle.sheet.specs.Number.{got}
use Rattle.sheet.specs.Passes.{LaidOut}
use Rattle.sheet.specs.Reading.{size_at, columns_at, order_at}
use Rattle.sheet.specs.Sheet.{Record}
use Rattle.sheet.proofs.Formed.{columns_formed, total_few, order_long, order_below}
use Rattle.sheet.proofs.Readings.{thing_same, next_same, size_got}
use Rattle.sheet.proofs.SheetWritten.{Well}

module _ {bytes : List ℕ} {x : Record} {columns order : ℕ} (L : LaidOut bytes x columns order) where
  pub record_well : Well x
  record_well =
      let s = size_got bytes 0 L.size_read in
      record {
        sized = (s.1, s.2);
        columns = columns_formed bytes x.size columns L.columns_read;
        few = total_few bytes x.size columns L.columns_read;
        places = order_long bytes x.size order L.order_read;
        rows_below = λ t h. (order_below bytes x.size order L.order_read t h).0;
        cols_below = λ t h. (order_below bytes x.size order L.order_read t h).1;
      }

  -- The size has been read again.
  module _ {m place : ℕ} (s : size_at bytes 0 ≡ got m place) where
    pub size_found : m ≡ x.size
    size_found = thing_same (sym s ∙ L.size_read)

    pub columns_found : columns_at bytes m place ≡ got x.columns order
    columns_found = rw (size_found, next_same (sym s ∙ L.size_read)) L.columns_read

    pub order_found : {P : List (List ℕ)} {next : ℕ} → columns_at bytes m place ≡ got P next → order_at bytes m next ≡ got x.order (length bytes)
    order_found c = rw (size_found, next_same (sym c ∙ columns_found)) L.order_read
