-- `byte`: one store.
use mathlib.Core.List.{List, []}
use mathlib.Core.Path.{refl, sym, ap, ◌∙◌}
use Prim.Native.Nat.{ℕ}
use native.Mathlib.Omega.{arith}
use lib.ListN.{set}
use Rattle.listing.proofs.Puts.{put_none, put_more}
use Rattle.text.proofs.Printing.{prints}
use Rattle.text.proofs.output.Output.byte.Goals as goal

pub returns : goal.returns
returns c =
    let out = c.args.self.now in
    prints c.requires refl (
    record {
      after = refl;
      stand =
          ap (λ (l : List ℕ). set l out.len c.args.b) (sym (put_none out.len out.bytes.now))
          ∙ put_more out.len [] out.bytes.now out.len c.args.b (omega arith) (omega (arith, c.requires));
    }
    )
