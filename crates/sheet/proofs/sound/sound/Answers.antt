-- `sound`: the rows' places, the columns' greatest places, and what they say of the order.
use lib.ListN.{get_or-replicate}
use Rattle.listing.proofs.Answers.{shown}
use Rattle.register.proofs.Orders.{placed_below}
use Rattle.sheet.proofs.Formed.{columns_formed, order_below}
use Rattle.sheet.proofs.Tops.{tops_sound}
use Rattle.sheet.proofs.sound.sound.Goals as goal

pub enter-requires-clause-none_placed : goal.enter-requires-clause-none_placed
enter-requires-clause-none_placed c = λ x h. get_or-replicate 1000 x 1000 0 h

pub tops-requires : goal.tops-requires
tops-requires c =
    (c.requires.0, c.requires.1, placed_below (shown c.enter.ensures c.if-not-enter.false))

pub returns : goal.returns
returns c =
    tops_sound
    (columns_formed c.args.bytes.now c.args.m c.args.columns c.requires.1.read)
    (shown c.enter.ensures c.if-not-enter.false)
    (λ x h. (order_below c.args.bytes.now c.args.m c.args.order c.requires.2.read x h).1)
    c.tops.ensures
    c.agree.ensures
