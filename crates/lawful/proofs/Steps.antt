-- What holds of a table that is in use, kept by every step. In order: a fresh table, a step, and that the bytes follow the protocol.
use mathlib.Core.Path.{◌≡◌, ◌∙◌}
use mathlib.Core.List.{List}
use Prim.Native.Nat.{ℕ}
use native.Mathlib.Omega.{arith}
use lib.Dec.{T}
use lib.ListN.{length}
use Rattle.codec.specs.Le.{Bytes}
use Rattle.protocol.specs.Record.{Setting}
use Rattle.protocol.specs.State.{setup}
use Rattle.protocol.specs.Event.{Event}
use Rattle.protocol.specs.Step.{step, next}
use Rattle.table.specs.Parts.{table_length, Whole}
use Rattle.table.specs.Decode.{decode}
use Rattle.table.specs.Put.{put_changes, fresh}
use Rattle.table.proofs.Parts.{whole_long, whole_still}
use Rattle.table.proofs.Bytes.{bytes-put_changes}
use Rattle.table.proofs.Decode.{length-put_changes, decode_puts}
use Rattle.table.proofs.Fresh.{length-fresh, decode-fresh, bytes-fresh}
use Rattle.lawful.specs.LawfulValues.{setting_lawful}
use Rattle.lawful.specs.WellFormed.{well_formed}
use Rattle.lawful.proofs.Facts.{setting_facts}
use Rattle.lawful.proofs.Fits.{step_fits}
use Rattle.lawful.proofs.Keeps.{step_formed}
use Rattle.lawful.proofs.Fresh.{fresh_formed}

-- a table of n bytes, whole and well formed
pub record Sound (n : ℕ) (t : List ℕ) : Type 0 where
  pub size : length t ≡ n
  pub whole : Whole t
  pub bytes : Bytes t
  pub formed : T (well_formed t)

pub fresh_sound : (c : Setting) → T (setting_lawful c) → Sound table_length (fresh c)
fresh_sound c ok = record { size = length-fresh c; whole = omega (arith, length-fresh c); bytes = bytes-fresh c; formed = fresh_formed c ok }

pub fresh-says : (c : Setting) → T (setting_lawful c) → decode (fresh c) ≡ setup c
fresh-says c ok = let fixed = setting_facts c ok in decode-fresh c (omega arith) (omega arith)

module _ (n : ℕ) (t : List ℕ) (ok : Sound n t) (e : Event) where
  pub step_sound : Sound n (put_changes (step (decode t) e).changes t)
  step_sound =
      let cs = (step (decode t) e).changes in
      let same = length-put_changes cs t (whole_long t ok.whole) (step_fits t ok.whole ok.bytes ok.formed e) in
      record {
        size = same ∙ ok.size;
        whole = whole_still t (put_changes cs t) same ok.whole;
        bytes = bytes-put_changes cs t ok.bytes;
        formed = step_formed t ok.whole ok.bytes ok.formed e;
      }

  pub step-says : decode (put_changes (step (decode t) e).changes t) ≡ next (decode t) e
  unfolding next
  step-says = decode_puts (step (decode t) e).changes t (whole_long t ok.whole) (step_fits t ok.whole ok.bytes ok.formed e)
