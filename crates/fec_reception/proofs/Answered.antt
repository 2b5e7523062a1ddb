-- What a table answers to a section that does not pass it.
use Rattle.std.proofs.Common.{◌≡◌, ◌≢◌, ◌↔◌, ℕ, ◌+◌, ◌*◌, ◌<◌, Bool, true, false, not, length, refl, arith}
use Rattle.std.proofs.lemmas.Bool.{leb-true}
use Rattle.fec_frame.specs.declared.place.TableAnswer.{TableAnswer}
use Rattle.fec_frame.specs.declared.place.TableAnswer.TheVariants.{Placed, OutOfTable, NewFrame}
use Rattle.mpe_section.specs.declared.mpe.Mpe.{Mpe}
use Rattle.mpe_section.specs.Views.{mpe_in}
use Rattle.fec_frame_spec.specs.Sections.{data_section, data_end, is_within_table}

-- it is placed, or cut
not_placed : (answer : TableAnswer) → answer ≢ Placed → answer ≢ OutOfTable → answer ≡ NewFrame
not_placed Placed never within = absurd (never refl)
not_placed OutOfTable never within = absurd (within refl)
not_placed NewFrame never within = refl

not_both : (answer : TableAnswer) → answer ≡ Placed → answer ≡ NewFrame → ⊥
not_both answer one two = cc

false_true : false ≡ true → ⊥
false_true e = cc

pub placed_or_cut : (placed : Bool) (answer : TableAnswer) (cut : Bool) → (placed ≡ true → answer ≡ Placed) → (placed ≡ false → answer ≢ Placed)
    → answer ≢ OutOfTable → (answer ≡ NewFrame ↔ (cut ≡ true)) → placed ≡ not cut
placed_or_cut true answer true said never within next = absurd (not_both answer (said refl) (next.1 refl))
placed_or_cut true answer false said never within next = refl
placed_or_cut false answer true said never within next = refl
placed_or_cut false answer false said never within next = absurd (false_true (next.0 (not_placed answer (never refl) within)))

-- a datagram within the table
pub is_within : (rows : ℕ) (m : Mpe) (answer : TableAnswer) → is_within_table rows (data_section (mpe_in m)) ≡ true
    → (answer ≡ OutOfTable ↔ (191 * rows < m.real_time.address + length m.datagram.now)) → answer ≢ OutOfTable
is_within rows m answer within out = λ is. over (out.0 is)
  where
    over : 191 * rows < m.real_time.address + length m.datagram.now → ⊥
    over less = omega (arith, less, leb-true (data_end (mpe_in m)) (191 * rows) within)
