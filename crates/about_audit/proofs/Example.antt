-- The example computes.
use Prim.Native.Nat.{ℕ}
use native.Mathlib.Omega.{arith}
use mathlib.Core.Path.{refl, sym}
use mathlib.Core.Bool.{true, false, true≢false}
use mathlib.Core.List.{List, [], ◌∷◌, ◌++◌}
use lib.ListN.{replicate}
use Rattle.octets.specs.Parts.{put}
use Rattle.octets.specs.Pick.{pick}
use Rattle.session.specs.Lent.{Lent}
use Rattle.source.specs.Scan.{scanned, kept_by, stream_taken}
use Rattle.receiver.specs.Receive.{received}
use Rattle.receiver.specs.declared.Received.{Received}
use Rattle.receiver.specs.declared.Event.TheVariants as event
use Rattle.window.specs.Window.{Refills}
use Rattle.window.specs.Turns.{none, more}
use Rattle.window.specs.declared.Refilled.{Refilled}
use Rattle.feed.specs.Pull.{fresh as freshFeed, at_end}
use Rattle.feed.specs.declared.Pull.TheVariants as pull
use Rattle.feed.specs.declared.Pulled.{Pulled}
use Rattle.table.specs.Table.{widths_wrong, badly_formed}
use Rattle.table.specs.Form.{known, grown, started}
use Rattle.table.specs.Look.{ended}
use Rattle.table.specs.declared.Check.{Check}
use Rattle.audit_form.specs.Reads.{brought, start}
use Rattle.audit_form.specs.Reads.{place as formPlace, Looped as ReadFirst}
use Rattle.audit_form.specs.declared.Reading.{Reading}
use Rattle.audit_form.specs.declared.Formed.{Formed}
use Rattle.audit_rows.specs.Goes.{fresh, stopped, having, dry, tells}
use Rattle.audit_turns.specs.Turns.{begun}
use Rattle.audit_turns.specs.declared.State.{State}
use Rattle.audit_run.specs.Loop.{place, Looped}
use Rattle.audit_run.specs.Told.{first_status}
use Rattle.about_audit.specs.Example.{receiver, table, Example}
use Rattle.kiss.specs.Reader.{scanned as kissScanned}

-- ---- the first reading: 8 octets, then none

abbrev buffer : List ℕ
buffer = table ++ (0 ∷ [])

abbrev whole : Refilled
whole = record { have = 8; came = 8; failed = false; tried = true }

-- A read that brings nothing.
abbrev dried : Refilled
dried = record { have = 0; came = 0; failed = false; tried = true }

abbrev once : Reading
once = record { form = grown (known []) table; read = whole; going = true }

abbrev twice : Reading
twice = record { form = grown (grown (known []) table) []; read = dried; going = false }

abbrev formed : Formed
formed = record { reading = twice; made = 2 }

unfoldable first_read : ReadFirst buffer formed buffer
unfolding brought
first_read = record {
  made = record {
    text = [];
    turns =
        more {said = []} {r = formPlace once buffer} {t = formPlace twice buffer}
        (more {said = []} {r = formPlace start buffer} {t = formPlace once buffer} none refl
        (record {
          grows = record {
            refills = record { piece = table; window = refl; many = refl; inside = omega arith; tried = refl; room = λ _. omega arith };
            grows = refl;
            going = refl;
          };
          silent = refl;
        })) refl
        (record {
          grows = record {
            refills = record { piece = []; window = refl; many = refl; inside = omega arith; tried = refl; room = λ _. omega arith };
            grows = refl;
            going = refl;
          };
          silent = refl;
        });
  };
  stops = λ e. absurd (true≢false (sym e));
}

-- ---- the second: nothing comes of the input, and nothing of the rows

abbrev check : Check
check = started twice.form

abbrev lent : Lent
lent = record { octets = replicate 501 0; lengths = replicate 16 0; firsts = replicate 16 0 }

abbrev last : State
last = record {
  feed = freshFeed;
  receiver = receiver;
  audit = stopped (having (fresh check) dried) (ended check []);
  read = dried;
  going = false;
  ended = true;
}

abbrev heard : Received
heard = record { receiver = receiver; used = 0; event = event.Missing 1 }

abbrev pulled : Pulled
pulled = record { feed = freshFeed; receiver = receiver; pull = pull.End; read = dried }

unfoldable no_row : Refills (0 ∷ []) 0 0 (0 ∷ []) dried
no_row = record { piece = []; window = refl; many = refl; inside = omega arith; tried = refl; room = λ _. omega arith }

unfoldable second-read : Looped receiver check (0 ∷ []) [] lent (0 ∷ []) (record { state = last; made = 1 }) (0 ∷ []) [] lent (0 ∷ [])
unfolding received scanned kept_by stream_taken kissScanned at_end pick brought no_row
second-read = record {
  made = record {
    text = [];
    turns =
        more {said = []} {r = place (begun receiver check) (0 ∷ []) [] lent (0 ∷ [])} {t = place last (0 ∷ []) [] lent (0 ∷ [])} none refl
        (record {
          turned = record {
            pulled = pulled;
            pulls = record {
              received = heard;
              piece = [];
              calls = record { receiver = refl; used = refl; tells = refl; keeps = refl; leaves = refl };
              receiver = refl;
              window = refl;
              many = refl;
              only = refl;
              tells = refl;
              passed = refl;
            };
            feed = refl;
            receiver = refl;
            read = refl;
            more = [];
            heeds = record {
              none = refl;
              going = refl;
              ended = refl;
              ends =
                  tells {b = having (fresh check) dried} {piece = []} {rows' = 0 ∷ []} refl
                  (dry {a = fresh check} {rows = 0 ∷ []} {rows₁ = 0 ∷ []} dried no_row (omega arith) refl);
            };
          };
          silent = refl;
        });
  };
  stops = λ e. absurd (true≢false (sym e));
}

pub example : Example
unfolding put pick known grown started widths_wrong badly_formed ended first_status first_read second-read no_row
example = record {
  readings = record {
    formed = formed;
    buffer = buffer;
    buffer' = buffer;
    reads = first_read;
    input = 0 ∷ [];
    rows = 0 ∷ [];
    lent = lent;
    enough = record { octets = omega arith; lengths = omega arith; firsts = omega arith };
    stopped = record { state = last; made = 1 };
    input' = 0 ∷ [];
    kept' = [];
    lent' = lent;
    rows' = 0 ∷ [];
    turns = second-read;
  };
  first = refl;
  input = refl;
  rows = refl;
  passes = record { formed = refl; ended = refl; sound = refl; tells = refl };
}
