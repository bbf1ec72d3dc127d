-- `top_place`: the greatest place of the rows, by a fold.
use Rattle.std.proofs.Common.{unwrap_or, rules, tests}
use Rattle.std.proofs.iter.Serving.{serving}
use Rattle.std.proofs.lemmas.Iterator.{YieldsList-from_slice, YieldsList-from_map}
use Rattle.std.proofs.lemmas.Iterator.Consumers.{reduce_from_yields_List}
use Rattle.std.proofs.lemmas.List.Elements.{All-from_get_or}
use Rattle.std.proofs.lemmas.List.Folds.{max_of_map}
use Rattle.std.specs.List.{All}
use mathlib.Core.Path.{ap, ◌∙◌}
use Prim.Native.Nat.{◌<◌}
use native.Mathlib.Omega.{arith}
use Rattle.pattern.specs.Places.{at}
use Rattle.register.proofs.Orders.{fold_greatest}
use Rattle.register.proofs.places.top_place.Goals as goal

pub max-requires-clause-can : goal.max-requires-clause-can
max-requires-clause-can c = let in_range : All (λ x. x < 1000) c.args.rows.now = All-from_get_or (λ x. x < 1000) _ 0 c.requires in grind serving

pub returns : goal.returns
returns c =
    let f = at c.args.places.now in
    let l = c.args.rows.now in
    c.unwrap_or.ensures
    ∙ ap (λ o. unwrap_or o 0) (reduce_from_yields_List _ c.map.result _ c.max.ensures.ran (YieldsList-from_map _ f (YieldsList-from_slice l cc) c.map.ensures.closure (λ x b q k. search (rules, tests))))
    ∙ max_of_map f l
    ∙ fold_greatest f l 0
    ∙ omega arith
