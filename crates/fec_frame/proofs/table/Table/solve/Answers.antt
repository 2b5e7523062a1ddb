use Rattle.std.proofs.Common.{◌≡◌, List, ◌++◌, ℕ, length, take, drop, sym, subst, arith}
use Rattle.std.proofs.lemmas.List.{take_at}
use Rattle.fec_frame.specs.Stands.{TableState, IsOf, IsSolved, Stands}
use Rattle.fec_frame.proofs.table.Table.solve.Goals as goal

pub returns-clause-solved : goal.returns-clause-solved
returns-clause-solved g c = λ sections stands.
    let own : IsOf c.self.inside.rows c.self.inside.bytes.items c.self.inside.marks.items c.self.inside.state sections = subst (λ (t : TableState). Stands t sections) (sym c.self.view_is) stands in
    let at_marks : IsOf c.self.inside.rows c.self.inside.bytes.items c.as_mut_slice-2.result.now c.self.inside.state sections =
    subst (λ (l : List ℕ). IsOf c.self.inside.rows c.self.inside.bytes.items l c.self.inside.state sections) (sym c.as_mut_slice-2.ensures.value) own in
    let at_slices : IsOf c.self.inside.rows c.as_mut_slice.result.now c.as_mut_slice-2.result.now c.self.inside.state sections =
    subst (λ (l : List ℕ). IsOf c.self.inside.rows l c.as_mut_slice-2.result.now c.self.inside.state sections) (sym c.as_mut_slice.ensures.value) at_marks in
    let bytes : take c.self.inside.bytes.len (c.solve_table.new.bytes ++ drop (length c.solve_table.new.bytes) c.self.inside.bytes.items) ≡ c.solve_table.new.bytes =
    take_at c.solve_table.new.bytes (drop (length c.solve_table.new.bytes) c.self.inside.bytes.items) c.self.inside.bytes.len (omega arith) in
    let marks : take c.self.inside.marks.len (c.solve_table.new.marks ++ drop (length c.solve_table.new.marks) c.self.inside.marks.items) ≡ c.solve_table.new.marks =
    take_at c.solve_table.new.marks (drop (length c.solve_table.new.marks) c.self.inside.marks.items) c.self.inside.marks.len (omega arith) in
    let solved : IsSolved (record { rows = c.self.inside.rows; bytes = c.solve_table.new.bytes; marks = c.solve_table.new.marks; state = c.solve_table.new.state }) sections =
    c.solve_table.ensures.solved sections at_slices in
    subst (λ (l : List ℕ). IsSolved (record {
      rows = c.self.inside.rows;
      bytes = l;
      marks = take c.self.inside.marks.len (c.solve_table.new.marks ++ drop (length c.solve_table.new.marks) c.self.inside.marks.items);
      state = c.solve_table.new.state;
    }) sections) (sym bytes)
    (subst (λ (l : List ℕ). IsSolved (record { rows = c.self.inside.rows; bytes = c.solve_table.new.bytes; marks = l; state = c.solve_table.new.state }) sections) (sym marks) solved)
