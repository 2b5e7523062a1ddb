use Rattle.std.proofs.Common.{◌≡◌, ◌⊎◌, inl, inr, ◌+◌, ◌-◌, ◌<◌, ◌≤◌, ℕ, [], true, false, length, refl, sym, ◌∙◌, arith}
use Rattle.fec_frame_spec.specs.Sections.{data_section}
use Rattle.fec_frame_law.proofs.Summary.{cut_by_summary}
use Rattle.fec_frame.specs.Stands.{data_fields, summary_of}
use Rattle.fec_frame.proofs.Placing.{stands_more}
use Rattle.fec_frame.proofs.Told.{data_told}
use Rattle.fec_frame.proofs.data.place_data.Goals as goal

both_tests : {X : Type 0} → true ≡ false → X
both_tests e = absurd (cc)

pub returns-then-cuts_data-clause-new_frame : goal.returns-then-cuts_data-clause-new_frame
returns-then-cuts_data-clause-new_frame c = λ group mac delta stands within. (
  (λ is.
      cut_by_summary c.args.rows group (summary_of c.args.state.now) stands.summary (data_section (data_fields mac delta c.args.address c.args.is_end c.args.ends c.args.datagram.now))
      ∙ sym (c.cuts_data.ensures.cut c.args.rows delta mac c.args.datagram.now c.args.is_end c.args.ends) ∙ c.if-cuts_data.true),
  (λ cut. refl),
)

pub returns-clause-new_frame : goal.returns-clause-new_frame
returns-clause-new_frame c = λ group mac delta stands within. (
  (λ is. absurd (cc)),
  (λ cut. both_tests
      (sym cut
      ∙ cut_by_summary c.args.rows group (summary_of c.args.state.now) stands.summary (data_section (data_fields mac delta c.args.address c.args.is_end c.args.ends c.args.datagram.now))
      ∙ sym (c.cuts_data.ensures.cut c.args.rows delta mac c.args.datagram.now c.args.is_end c.args.ends) ∙ c.if-cuts_data.false)),
)

pub returns-clause-placed : goal.returns-clause-placed
returns-clause-placed c = λ group mac delta stands is.
    stands_more c.args.rows c.args.bytes.now c.args.marks.now c.fill_data.new.bytes c.fill_data.new.marks c.args.state.now c.with_data.result group
    (data_section (data_fields mac delta c.args.address c.args.is_end c.args.ends c.args.datagram.now)) stands
    (sym (c.cuts_data.ensures.cut c.args.rows delta mac c.args.datagram.now c.args.is_end c.args.ends) ∙ c.if-cuts_data.false)
    (c.fill_data.ensures.taken mac delta c.args.ends)
    (c.with_data.ensures.summary delta c.args.address mac c.args.datagram.now refl refl) c.with_data.ensures.some

pub returns-clause-told : goal.returns-clause-told
returns-clause-told c =
    let size : ℕ = length c.args.datagram.now in
    data_told c.args.rows c.args.bytes.now c.args.marks.now c.fill_data.new.bytes c.fill_data.new.marks c.args.state.now c.with_data.result c.requires.told
    (data_fields [] 0 c.args.address c.args.is_end c.args.ends c.args.datagram.now) (c.fill_data.ensures.taken [] 0 c.args.ends) (omega arith)
    (λ place low. by_side c.args.address size place c.args.state.now.known_to (c.with_data.ensures.known place low)) c.with_data.ensures.zeros
  where
    by_side : (address size place known_to : ℕ) → (place < known_to) ⊎ ((address + size - size ≤ place) × (place < address + size)) → (place < known_to) ⊎ ((address ≤ place) × (place < address + size))
    by_side address size place known_to (inl low) = inl low
    by_side address size place known_to (inr inside) = inr (omega (arith, inside.0), inside.1)
