-- No two outcomes satisfy the contract of a function for the crates above, as its source states it. Rests on `listing` and `text`.
use mathlib.Core.Path.{refl}
use Rattle.listing.specs.Contract.{DeterminedAs}
use Rattle.text.proofs.Determined.{printed, prints_one}
use Rattle.replies.proofs.bad_line.Kinds as bad-line-kinds
use Rattle.replies.proofs.bad_line.Reads as bad_line
use Rattle.replies.proofs.start_refused.Kinds as start-refused-kinds
use Rattle.replies.proofs.start_refused.Reads as start_refused
use Rattle.replies.proofs.put_reply.Kinds as put-reply-kinds
use Rattle.replies.proofs.put_reply.Reads as put_reply

pub bad_line_determined : DeterminedAs bad-line-kinds.ps bad-line-kinds.r bad_line.Pre bad_line.Post (λ κs x. x) (λ κs a ws. printed ws.1.0)
bad_line_determined κs a h x y ws vs p q = (refl, prints_one p q)

pub start_refused_determined : DeterminedAs start-refused-kinds.ps start-refused-kinds.r start_refused.Pre start_refused.Post (λ κs x. x) (λ κs a ws. printed ws.1.0)
start_refused_determined κs a h x y ws vs p q = (refl, prints_one p q)

pub put_reply_determined : DeterminedAs put-reply-kinds.ps put-reply-kinds.r put_reply.Pre put_reply.Post (λ κs x. x) (λ κs a ws. printed ws.1.1.1.1.1.1.0)
put_reply_determined κs a h x y ws vs p q = (refl, prints_one p q)
