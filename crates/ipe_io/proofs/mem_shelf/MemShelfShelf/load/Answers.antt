use Rattle.std.proofs.Common.{◌≤◌, ◌∙◌, ap, subst}
use Rattle.wire_spec.specs.Causes.{raised}
use Rattle.ipe_io.specs.Memory.{ShelfState, bytes_of, faults_of}
use Rattle.ipe_io.proofs.MemShelves.{bytes_of-failed_for, faults_of-failed_for}
use Rattle.ipe_io.proofs.mem_shelf.MemShelfShelf.load.Goals as goal

pub returns-in-Err-Failed-clause-unchanged : goal.returns-in-Err-Failed-clause-unchanged
returns-in-Err-Failed-clause-unchanged c = λ other.
    let was = c.self.inside in
    let called : ShelfState = record { first = was.first; second = was.second; others = was.others; calls = c.count-listed.new.self } in
    ap (λ s. bytes_of s other) c.fail.ensures.failed ∙ bytes_of-failed_for c.args.name.now called other ∙ ap (λ s. bytes_of s other) c.self.view_is

pub returns-in-Err-Failed-clause-cause : goal.returns-in-Err-Failed-clause-cause
returns-in-Err-Failed-clause-cause c =
    let name = c.args.name.now in
    let was = c.self.inside in
    let called : ShelfState = record { first = was.first; second = was.second; others = was.others; calls = c.count-listed.new.self } in
    record {
      later = subst (λ s. faults_of s name ≤ faults_of c.fail.new.self name) c.self.view_is (c.fail.ensures.later name);
      failed = λ _.
          ap (λ s. faults_of s name) c.fail.ensures.failed ∙ faults_of-failed_for name called ∙ ap (λ s. raised (faults_of s name) 1) c.self.view_is;
    }
