-- How samples that the bytes which are held tell are read from an input.
use Rattle.pnm_read.proofs.Words.{◌≡◌, ℕ, ◌+◌, ◌-◌, ◌≤◌, List, ◌++◌, length, drop, Option, Ok, Err, inr, refl, sym, ap, ap₂, subst, ◌∙◌, arith, Vec, Shape}
use Rattle.pnm_read.proofs.Words.{ReadFailed, Memory, BufferedReader, in_turn, plain_row, held_of, ReadCall, FindsWords, TakesSamples}
use Rattle.std.proofs.Common.{length-append}
use Rattle.pnm_read.proofs.UnitLaws.{and_items}
use Rattle.pnm_read.proofs.PartLaws.{part_is_read}
use Rattle.pnm_read.proofs.ReadCalls.{no_fault, call_ok_so, call_advance}
use Rattle.pnm_read.proofs.PlainSteps.{sample_of, ReadingSamples}

module _ {R : Type 0} {left : R → Option (List ℕ)} {failures : R → ℕ} {same : R → R → Type 0} {s : Shape} {all more : ℕ} {samples : List ℕ}
    {old now : BufferedReader R} where
  -- memory ran out
  pub reading_no_memory : ReadingSamples left failures same s all more samples old now → ReadCall {A = Vec ℕ} left failures same old now (Err Memory)
      (FindsWords (plain_row s) (Err Memory))
  reading_no_memory r = call_ok_so {A = Unit {0}} {B = Vec ℕ} (Err Memory) (λ e. absurd cc) (λ b a o. inr (inr refl)) r.call

  -- samples more were taken of the bytes that are held
  pub samples_taken : {new : BufferedReader R} (bytes row : List ℕ) (taken fewer : ℕ) → ReadingSamples left failures same s all more samples old now
      → bytes ≡ held_of now → TakesSamples (sample_of s) bytes samples row taken → length row + fewer ≡ length samples + more → new.reader ≡ now.reader
      → new.ended ≡ now.ended → held_of new ≡ drop taken (held_of now) → ReadingSamples left failures same s all fewer row old new
  samples_taken bytes row taken fewer r is_held t count reader ended held =
      let longer : length row ≡ length samples + length t.samples = ap (λ (l : List ℕ). length l) t.appended ∙ length-append samples t.samples in
      let most : length t.samples ≤ more = omega arith in
      let is_fewer : more - length t.samples ≡ fewer = omega arith in
      let read = subst (λ (l : List ℕ). (rest : List ℕ) → in_turn (sample_of s) (length t.samples) (l ++ rest) ≡ Ok (t.samples, drop taken l ++ rest)) is_held
      t.read in record {
        call = call_advance {A = Unit {0}} {B = Unit {0}} taken (no_fault tt ReadFailed) reader ended held (λ b rest c o.
            part_is_read (sample_of s) all more (length t.samples) samples t.samples b (held_of now ++ rest) (drop taken (held_of now) ++ rest) most
            (read rest) o
            ∙ ap₂ (λ (n : ℕ) (l : List ℕ). and_items (sample_of s) n l (drop taken (held_of now) ++ rest)) is_fewer (sym t.appended)) r.call;
      }
