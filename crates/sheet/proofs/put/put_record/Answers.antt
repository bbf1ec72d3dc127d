-- `put_record`: the size, the columns and the order, one behind the other.
use mathlib.Core.List.{◌++◌}
use lib.ListN.{length}
use Rattle.sheet.specs.Number.{groups}
use Rattle.sheet.specs.Sheet.{Record, record_with, columns_bytes, order_bytes}
use Rattle.sheet.proofs.Sinks.{second_room, put_both}
use Rattle.sheet.proofs.put.put_record.Goals as goal
use Rattle.sheet.proofs.put.put_record.Goals.{After-put}

module _ (g : _) (c : After-put g) where
  abbrev x : Record
  x = record_with c.args.columns c.args.order_rows.now c.args.order_cols.now

  -- Behind the size there is room for the columns and the order.
  room : g.S.Sink.room c.put.new.self (length (columns_bytes x.columns ++ order_bytes x.order))
  room = second_room g.met.S.Sink.laws c.args.sink.now (groups x.size) (columns_bytes x.columns ++ order_bytes x.order) c.requires.2 c.put.ensures

pub put_order-requires : goal.put_order-requires
put_order-requires g c =
    let s = (goal.at.put_order-requires g c).After-put in
    (c.args.columns.good.small, c.requires.0, c.requires.1, second_room g.met.S.Sink.laws c.put.new.self (columns_bytes (x g s).columns) (order_bytes (x g s).order) (room g s) c.put_columns.ensures)

pub returns : goal.returns
returns g c =
    let s = (goal.at.returns g c).After-put in
    let rest = put_both g.met.S.Sink.laws c.put.new.self (columns_bytes (x g s).columns) (order_bytes (x g s).order) (room g s) c.put_columns.ensures c.put_order.ensures in
    put_both g.met.S.Sink.laws c.args.sink.now (groups (x g s).size) (columns_bytes (x g s).columns ++ order_bytes (x g s).order) c.requires.2 c.put.ensures rest
