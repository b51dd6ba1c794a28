-- The form of all that the reads brought.
use Prim.Native.Nat.{ℕ}
use mathlib.Core.Path.{◌≡◌, refl, ap, ◌∙◌, subst}
use mathlib.Core.Bool.{Bool, true}
use mathlib.Core.List.{List, []}
use Rattle.window.specs.Window.{hand, Refills, unread}
use Rattle.window.specs.Turns.{Turns, none, more, Loops}
use Rattle.window.specs.declared.Refilled.{Refilled}
use Rattle.table.specs.Form.{known, grown}
use Rattle.table.specs.declared.Form.{Form}
use Rattle.table.proofs.Keeping.{keeps_on}
use Rattle.audit_form.specs.Reads.{brought, Grows, Place, going_at, GrowsAt, place, start, brought_by, FormOfAll}
use Rattle.audit_form.specs.declared.Reading.{Reading}

-- one read
pub grew : (s : Reading) {buffer buffer' : List ℕ} {read : Refilled} {n : ℕ} {w : List ℕ} {f : Form} {b : Bool}
    → Refills buffer 0 0 buffer' read → n ≡ read.have → w ≡ hand buffer' 0 n → f ≡ grown s.form w → b ≡ brought read
    → Grows s buffer (record { form = f; read = read; going = b }) buffer'
grew s {buffer' = buffer'} g e h k d =
    record { refills = g; grows = k ∙ ap (grown s.form) (h ∙ ap (λ (n : ℕ). hand buffer' 0 n) e ∙ g.window); going = d }

-- before the first
pub at-start : {f : Form} {r : Refilled} → f ≡ known [] → r ≡ unread → ◌≡◌ {A = Reading} (record { form = f; read = r; going = true }) start
at-start {r = r} e d =
    ap (λ (x : Form). record { form = x; read = r; going = true }) e ∙ ap
    (λ (x : Refilled). record { form = known []; read = x; going = true }) d

pub begun : {s : Reading} {buffer : List ℕ} {n : ℕ} {q : Place} → s ≡ start → Loops going_at GrowsAt (place s buffer) n q
    → Loops going_at GrowsAt (place start buffer) n q
begun {buffer = buffer} {n} {q} e l = subst (λ (s : Reading). Loops going_at GrowsAt (place s buffer) n q) e l

all-kept : {p q : Place} {n : ℕ} {text : List ℕ} → p.reading.form ≡ known [] → (t : Turns going_at GrowsAt p n text q)
    → q.reading.form ≡ known (brought_by t)
all-kept e none = e
all-kept e (more t g x) =
    x.grows.grows ∙ ap (λ (f : Form). grown f x.grows.refills.piece) (all-kept e t) ∙ keeps_on (brought_by t)
    x.grows.refills.piece

pub form_of_all : FormOfAll
form_of_all buffer r buffer' l = all-kept refl l.made.turns
