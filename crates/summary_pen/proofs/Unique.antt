-- No second result satisfies the contracts of this crate's public functions.
use Prim.Native.Nat.{ℕ}
use mathlib.Core.List.{List}
use mathlib.Core.Path.{◌≡◌, sym, ap, ◌∙◌}
use Rattle.octets.specs.Unique.{Fixes}
use Rattle.summary_pen.specs.declared.pen.Pen.{Pen}
use Rattle.summary_pen.specs.Page.{Page, page, Says}
use Rattle.summary_pen.proofs.forms.begin.Kinds as kbegin
use Rattle.summary_pen.proofs.forms.begin.Reads as rbegin
use Rattle.summary_pen.proofs.forms.frames.Kinds as kframes
use Rattle.summary_pen.proofs.forms.frames.Reads as rframes
use Rattle.summary_pen.proofs.forms.refusal.Kinds as krefusal
use Rattle.summary_pen.proofs.forms.refusal.Reads as rrefusal
use Rattle.summary_pen.proofs.forms.channel.Kinds as kchannel
use Rattle.summary_pen.proofs.forms.channel.Reads as rchannel
use Rattle.summary_pen.proofs.forms.over_all.Kinds as kover-all
use Rattle.summary_pen.proofs.forms.over_all.Reads as rover-all
use Rattle.summary_pen.proofs.forms.packets.Kinds as kpackets
use Rattle.summary_pen.proofs.forms.packets.Reads as rpackets
use Rattle.summary_pen.proofs.forms.of_key.Kinds as kof-key
use Rattle.summary_pen.proofs.forms.of_key.Reads as rof-key
use Rattle.summary_pen.proofs.forms.others.Kinds as kothers
use Rattle.summary_pen.proofs.forms.others.Reads as rothers
use Rattle.summary_pen.proofs.forms.apid.Kinds as kapid
use Rattle.summary_pen.proofs.forms.apid.Reads as rapid
use Rattle.summary_pen.proofs.forms.image.Kinds as kimage
use Rattle.summary_pen.proofs.forms.image.Reads as rimage
use Rattle.summary_pen.proofs.forms.other_lines.Kinds as kother-lines
use Rattle.summary_pen.proofs.forms.other_lines.Reads as rother-lines
use Rattle.summary_pen.proofs.forms.bad.Kinds as kbad
use Rattle.summary_pen.proofs.forms.bad.Reads as rbad

one-said : {text : List ℕ} {p : Page} {out₁ out₂ : List ℕ} {r₁ r₂ : Pen} → Says text p (page out₁ r₁) → Says text p (page out₂ r₂)
    → ◌≡◌ {A = Pen × List ℕ} (r₁, out₁) (r₂, out₂)
one-said p q = ap (λ (x : Page). (x.pen, x.out)) (p.leaves ∙ sym q.leaves)

-- the pen and the lent output afterwards
pub begin_fixed : Fixes kbegin.ps kbegin.r {A = Pen × List ℕ} rbegin.Post (λ κs x s. (x, s.0.now))
begin_fixed κs a x y s t p q = one-said p q

pub frames_fixed : Fixes kframes.ps kframes.r {A = Pen × List ℕ} rframes.Post (λ κs x s. (x, s.0.now))
frames_fixed κs a x y s t p q = one-said p q

pub refusal_fixed : Fixes krefusal.ps krefusal.r {A = Pen × List ℕ} rrefusal.Post (λ κs x s. (x, s.0.now))
refusal_fixed κs a x y s t p q = one-said p q

pub channel_fixed : Fixes kchannel.ps kchannel.r {A = Pen × List ℕ} rchannel.Post (λ κs x s. (x, s.0.now))
channel_fixed κs a x y s t p q = one-said p q

pub over_all_fixed : Fixes kover-all.ps kover-all.r {A = Pen × List ℕ} rover-all.Post (λ κs x s. (x, s.0.now))
over_all_fixed κs a x y s t p q = one-said p q

pub packets_fixed : Fixes kpackets.ps kpackets.r {A = Pen × List ℕ} rpackets.Post (λ κs x s. (x, s.0.now))
packets_fixed κs a x y s t p q = one-said p q

pub of_key_fixed : Fixes kof-key.ps kof-key.r {A = Pen × List ℕ} rof-key.Post (λ κs x s. (x, s.0.now))
of_key_fixed κs a x y s t p q = one-said p q

pub others_fixed : Fixes kothers.ps kothers.r {A = Pen × List ℕ} rothers.Post (λ κs x s. (x, s.0.now))
others_fixed κs a x y s t p q = one-said p q

pub apid_fixed : Fixes kapid.ps kapid.r {A = Pen × List ℕ} rapid.Post (λ κs x s. (x, s.0.now))
apid_fixed κs a x y s t p q = one-said p q

pub image_fixed : Fixes kimage.ps kimage.r {A = Pen × List ℕ} rimage.Post (λ κs x s. (x, s.0.now))
image_fixed κs a x y s t p q = one-said p q

pub other_lines_fixed : Fixes kother-lines.ps kother-lines.r {A = Pen × List ℕ} rother-lines.Post (λ κs x s. (x, s.0.now))
other_lines_fixed κs a x y s t p q = one-said p q

pub bad_fixed : Fixes kbad.ps kbad.r {A = Pen × List ℕ} rbad.Post (λ κs x s. (x, s.0.now))
bad_fixed κs a x y s t p q = one-said p q
