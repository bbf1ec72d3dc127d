-- A count of bytes and the bytes themselves keep the laws of what bytes are put into. Rests on Sink.antt, `listing` and `text`.
use Rattle.std.specs.Prelude.{◌≡◌, ◌+◌, ◌≤◌, ◌<◌, length, refl}
use Rattle.std.proofs.Common.{sym, ◌∙◌, arith}
use lib.ListN.{length-append}
use Rattle.listing.proofs.Puts.{put_none}
use Rattle.text.specs.Puts.{Puts}
use Rattle.text.proofs.Progress.{puts_both, puts_length}
use Rattle.sheet.specs.Sink.{SinkLaws}
use Rattle.sheet.specs.declared.sink.Count.{Count}
use Rattle.sheet.specs.declared.sink.Bytes.{Bytes}

pub count_laws : SinkLaws {S = Count} (λ s n. s.bytes + n < 65536) (λ s l t. t.bytes ≡ s.bytes + length l)
count_laws = record {
  none = λ s. omega arith;
  less = λ s m n h r. omega arith;
  left = λ s l t n r p. omega arith;
  both = λ s a t b u r p q. omega (arith, length-append a b);
}

pub bytes_laws : SinkLaws {S = Bytes} (λ s n. s.len + n ≤ length s.bytes.now)
    (λ s l t. Puts s.len l s.bytes.now t.len t.bytes.now × (t.bytes.ghost_name ≡ s.bytes.ghost_name))
bytes_laws = record {
  none = λ s. (record { after = omega arith; stand = sym (put_none s.len s.bytes.now) }, refl);
  less = λ s m n h r. omega arith;
  left = λ s l t n r p. omega (arith, p.0.after, puts_length {k = s.len} {l = l} (omega arith) p.0);
  both = λ s a t b u r p q. (puts_both (omega arith) p.0 q.0, q.1 ∙ p.1);
}
