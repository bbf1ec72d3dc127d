-- `sound`: the rows' places, and what the columns' greatest places say.
use native.Mathlib.Omega.{arith}
use Rattle.listing.proofs.Answers.{shown, says_as}
use Rattle.register.proofs.Orders.{placed_below}
use Rattle.register.proofs.Tops.{tops_sound, sound_tops}
use Rattle.register.proofs.order.sound.Goals as goal

pub enter-requires : goal.enter-requires
enter-requires c = record { in_range = omega arith; none_placed = c.clear.ensures }

pub lay_tops-requires : goal.lay_tops-requires
lay_tops-requires c =
    placed_below (shown c.enter.ensures.told c.if-not-enter.false)

pub returns-clause-says : goal.returns-clause-says
returns-clause-says c =
    let L = shown c.enter.ensures.told c.if-not-enter.false in
    let G = c.args.columns.good in
    says_as (tops_sound G L c.lay_tops.ensures _) (sound_tops G L c.lay_tops.ensures _) c.topped.ensures
