-- How far the bytes of a chunk have been taken: none yet, one more, and where the taking stops. Rests on Feeding.antt,
-- Steadiness.antt, RoomKept.antt, `text`, `replies` and `turns`.
use mathlib.Core.Bool.{false}
use mathlib.Core.List.{List, [], ◌++◌}
use mathlib.Core.Path.{◌≡◌, ap, ap₂, ◌∙◌, subst}
use Prim.Native.Nat.{ℕ, ◌+◌, ◌-◌, ◌≤◌, ◌<◌}
use native.Mathlib.Decide.{dec_lt}
use native.Mathlib.Numerals.{add-one}
use native.Mathlib.Omega.{arith}
use lib.ListN.{length, take}
use lib.Seq.{take-suc}
use Rattle.pattern.specs.Ladder.{holds}
use Rattle.pattern.specs.Places.{at}
use Rattle.listing.specs.Held.{put}
use Rattle.text.specs.Prints.{HasRoom, Prints}
use Rattle.text.specs.declared.output.Output.{Output}
use Rattle.text.proofs.Printing.{prints_none, prints_both}
use Rattle.replies.specs.Replies.{max_reply}
use Rattle.turns.specs.Steps.{Makes}
use Rattle.turns.specs.Turns.{Run, After, after}
use Rattle.turns.specs.declared.State.{State}
use Rattle.script.specs.Feed.{Ready, GoesOn, fed_out, Feeds}
use Rattle.script.specs.Tryout.{has_ended, Byte, Fed}
use Rattle.script.proofs.Feeding.{fed_none, fed_more, fed_one}
use Rattle.script.proofs.RoomKept.{byte_keeps}
use Rattle.script.proofs.Steadiness.{byte_stays}

-- So many bytes of the chunk were taken, each while the run went on; the run `r'` stands after them, ready for the others, and what
-- was printed stands at the head of the output list.
pub record Taken (r : Run) (chunk : List ℕ) (out : Output) (r' : Run) (i : ℕ) (out' : Output) : Type 0 where
  pub said : List ℕ
  pub within : i ≤ length chunk
  pub fed : Fed r (take i chunk) (after r' said)
  pub on : (t : ℕ) → t < i → (x : After) → Fed r (take t chunk) x → GoesOn (length out.bytes.now) x
  pub at_head : out.len ≡ 0
  pub prints : Prints said out out'
  pub ready : Ready r' (length chunk - i)

-- The run goes on, and there is room behind what was printed.
abbrev pub Going : State → Output → Type 0
Going s out = (has_ended s ≡ false) × HasRoom max_reply out

module _ {r : Run} {chunk : List ℕ} {out : Output} where
  pub taken_none : out.len ≡ 0 → Ready r (length chunk) → Taken r chunk out r 0 out
  taken_none e p =
      record {
        said = [];
        within = omega arith;
        fed = fed_none r;
        on = λ t h. absurd (omega arith);
        at_head = e;
        prints = prints_none out;
        ready = record { roomy = p.roomy; turn_right = p.turn_right; line_short = p.line_short; countable = omega (arith, p.countable) };
      }

  module _ {r' : Run} {i : ℕ} {out' : Output} (k : Taken r chunk out r' i out') where
    -- As it is said in specs/.
    taken_goes : Going r'.state out' → GoesOn (length out.bytes.now) (after r' k.said)
    taken_goes g = record { runs = g.0; fits = omega (arith, g.1, k.prints.puts.after, k.at_head, k.prints.as_long) }

    module _ (h : i < length chunk) where
      -- One more.
      pub taken_more : Going r'.state out' → {r'' : Run} {out'' : Output} → Makes (Byte r' (at chunk i)) out' r'' out''
          → Taken r chunk out r'' (i + 1) out''
      taken_more g {r''} {out''} m =
          let s = byte_stays r' k.ready.turn_right k.ready.line_short (at chunk i) (after r'' m.said) m.does in
          record {
            said = k.said ++ m.said;
            within = omega arith;
            fed = rw (add-one i, take-suc chunk i 0 h) (fed_more (take i chunk) (at chunk i) r (after r' k.said) (after r'' m.said) k.fed m.does);
            on = λ t u x f. still t u x f (dec_lt t i);
            at_head = k.at_head;
            prints = prints_both (omega (arith, k.at_head)) k.prints m.prints;
            ready =
                record {
                  roomy = byte_keeps r' k.ready.roomy (at chunk i) (after r'' m.said) m.does;
                  turn_right = s.turn_right;
                  line_short = s.line_short;
                  countable = omega (arith, s.number, k.ready.countable);
                };
          }
        where
          still : (t : ℕ) → t < i + 1 → (x : After) → Fed r (take t chunk) x → Dec (t < i) → GoesOn (length out.bytes.now) x
          still t u x f (yes v) = k.on t v x f
          still t u x f (no v) =
              let n : t ≡ i = omega arith in
              subst (GoesOn (length out.bytes.now)) (fed_one (take i chunk) r (after r' k.said) x k.fed (subst (λ (n : ℕ). Fed r (take n chunk) x) n f)) (taken_goes g)

    -- All were taken, or the run does not go on. This many were, and this is left in the list.
    pub taken_stops : {n : ℕ} {left : List ℕ} → (i < length chunk → ¬ Going r'.state out') → Ready r (length chunk) → n ≡ i → left ≡ out'.bytes.now
        → Feeds r chunk out.bytes.now (fed_out r' n out'.len left)
    taken_stops stops p e f =
        holds p (
          after r' k.said,
          rw e (record { within = k.within; fed = k.fed; on = k.on; stops = λ h g. stops h (g.runs, omega (arith, g.fits, k.prints.puts.after, k.at_head, k.prints.as_long)) }),
          rw (e, f)
              (ap₂ (λ (n : ℕ) (l : List ℕ). fed_out r' i n l) (omega (arith, k.prints.puts.after, k.at_head)) (k.prints.puts.stand ∙ ap (λ (n : ℕ). put n k.said out.bytes.now) k.at_head)),
        )
