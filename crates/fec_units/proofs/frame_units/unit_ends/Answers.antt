use Rattle.std.proofs.Common.{◌≡◌, ℕ, suc, ◌+◌, ◌*◌, List, [], ◌++◌, length, drop, ap, sym, ◌∙◌, arith, append-nil}
use Rattle.std.proofs.lemmas.List.{drop_all}
use Rattle.stream_spec.specs.Units.{datagrams_by_frame, units_of_frames}
use Rattle.fec_units.specs.Ends.{ends_of_sizes}
use Rattle.fec_units.specs.Parts.{part_of}
use Rattle.fec_units.proofs.Ends.{frame_ends, sizes_are, sizes_of_frames, some_frames, unit_ends_are}
use Rattle.fec_units.proofs.frame_units.unit_ends.Goals as goal

one_more : (columns n : ℕ) → columns * suc n ≡ columns + columns * n
one_more columns n = omega arith

pub loop-from-preserved : goal.loop-from-preserved
loop-from-preserved c =
    let inv = c.loop-from.invariant in
    let rows : ℕ = c.args.rows in
    let columns : ℕ = c.args.columns in
    let list : List (List ℕ) = c.args.list.now in
    let end : ℕ = c.frame_end-end.result in
    let left : List (List (List ℕ)) = datagrams_by_frame rows (drop c.loop-from.from list) in
    let later : List (List (List ℕ)) = datagrams_by_frame rows (drop end list) in
    let frame : left ≡ _ = c.frame_end-end.ensures.frame in
    record {
      within = c.frame_end-end.ensures.within;
      put = frame_ends rows columns c.loop-from.ends.items c.put_data_ends-at.new.ends.items c.put_column_ends-at.new.ends.items
          (ends_of_sizes 0 (sizes_of_frames rows columns (datagrams_by_frame rows list)))
          c.loop-from.at c.put_data_ends-at.result c.put_column_ends-at.result (part_of c.loop-from.from end list) left later frame inv.put
          c.put_data_ends-at.ensures.put c.put_data_ends-at.ensures.after c.put_column_ends-at.ensures.put c.put_column_ends-at.ensures.after;
      most = omega (arith, inv.most, c.put_data_ends-at.ensures.most, c.put_column_ends-at.ensures.most, c.frame_end-end.ensures.some);
      room = omega (
        arith,
        inv.room,
        c.put_data_ends-at.ensures.size,
        c.put_data_ends-at.ensures.room,
        c.put_column_ends-at.ensures.size,
        c.put_column_ends-at.ensures.room,
        c.frame_end-end.ensures.some,
        c.frame_end-end.ensures.within,
        ap (λ (l : List (List (List ℕ))). columns * length l) frame,
        one_more columns (length later),
      );
    }

pub returns-clause-ends : goal.returns-clause-ends
returns-clause-ends c = λ unicast first.
    let rows : ℕ = c.args.rows in
    let columns : ℕ = c.args.columns in
    let list : List (List ℕ) = c.args.list.now in
    let frames : List (List (List ℕ)) = datagrams_by_frame rows list in
    let none : drop c.loop-from.from list ≡ [] = drop_all c.loop-from.from list (omega (arith, c.loop-from-test.false, c.len-in-loop-from.ensures.read)) in
    unit_ends_are (units_of_frames rows columns unicast first frames) (sizes_of_frames rows columns frames) c.loop-from.ends.items
    (sizes_are rows columns unicast first frames c.requires.columns.1) (some_frames rows columns frames)
    (sym (append-nil c.loop-from.ends.items)
    ∙ sym (ap (λ (ds : List (List ℕ)). c.loop-from.ends.items ++ ends_of_sizes c.loop-from.at (sizes_of_frames rows columns (datagrams_by_frame rows ds))) none)
    ∙ c.loop-from.invariant.put)
