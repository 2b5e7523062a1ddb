use Rattle.std.proofs.Common.{arith, ℕ, List, ◌≡◌, ◌∙◌, ◌+◌, ◌-◌, ◌*◌, ◌≤◌, length, refl}
use Rattle.std.specs.List.{between}
use Rattle.std.proofs.Math.Nat.{mul-le-mul_right}
use Rattle.std.proofs.lemmas.List.Edits.{length-between}
use Rattle.gf256.specs.Horner.{horner_value}
use Rattle.rs_erasure.specs.Columns.{cell}
use Rattle.rs_erasure.proofs.Changes.{part_changed}
use Rattle.rs_erasure.proofs.Horner.{columns_end, values_at}
use Rattle.rs_erasure.proofs.columns.find_values.Goals as goal

pub overflow_mul-columns : goal.overflow_mul-columns
overflow_mul-columns c =
    let t = c.args.there in
    let s = c.args.columns in
    let h : 1 * (s.apart * t.rows) ≤ (s.count - 1) * (s.apart * t.rows) = mul-le-mul_right (s.apart * t.rows) (omega (arith, c.requires.several)) in
    let e = columns_end s.first s.apart s.count t.rows (length c.args.source.now) c.requires.source_room in
    omega (arith, h, e)

pub horner_columns-requires-clause-room : goal.horner_columns-requires-clause-room
horner_columns-requires-clause-room c =
    let r = c.args.run in
    let t = c.args.there in
    let s = c.args.columns in
    let here : ℕ = c.args.into * r.rows in
    let e = columns_end s.first s.apart s.count t.rows (length c.args.source.now) c.requires.source_room in
    let l : length (between (here + r.from) (here + r.to) c.args.work.now) ≡ here + r.to - (here + r.from) = length-between c.args.work.now (here + r.from) (here + r.to) (omega arith) in
    omega (arith, e, l)

pub returns : goal.returns
returns c =
    let r = c.args.run in
    let t = c.args.there in
    let s = c.args.columns in
    let source : List ℕ = c.args.source.now in
    part_changed r.rows r.from r.to c.args.into _ _ (λ i. horner_value c.args.root.0 (λ q. cell t.rows source (s.first + q * s.apart) (t.from + (i - r.from))) s.count) c.args.work.now c.horner_columns.new.target
    c.args.run.order c.args.run.within c.requires.room refl (omega arith) (omega arith)
    (λ i lt.
    let e : t.from + i ≡ t.from + (r.from + i - r.from) = omega arith in
    c.horner_columns.ensures i (omega arith) ∙ values_at c.args.root.0 s.first s.apart s.count t.rows t.from source i (t.from + (r.from + i - r.from)) e)
