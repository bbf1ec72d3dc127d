-- `own_sound`: the places hold their own numbers, so the order that is asked for is t:t.
use mathlib.Core.Path.{sym}
use Rattle.pattern.proofs.Pairing.{sound_same}
use Rattle.listing.proofs.Answers.{says_as}
use Rattle.register.proofs.Starting.{own_at}
use Rattle.register.proofs.start.own_sound.Goals as goal

pub returns : goal.returns
returns c =
    let own = own_at c.args.scratch.now.work c.lay_own.ensures in
    says_as (sound_same own own) (sound_same (λ t h. sym (own t h)) (λ t h. sym (own t h))) c.sound.ensures.says
