-- Files of a rack whose writers tell what they have.
use Rattle.std.proofs.Common.{◌≡◌, ◌∙◌, ℕ, ◌+◌, ◌<◌, ◌≤◌, ◌≢◌, ⊎_elim, Bool, true, false, not, ◌==◌, cond, filter, take, List, [], length, set, get_or, map, refl, ap, sym, subst, arith}
use Rattle.std.proofs.lemmas.Bool.{cases_eq}
use Rattle.std.proofs.lemmas.List.{map-set, get_or-map, get_or-set_same, get_or-set_other, get_or_default, length-set, take-set}
use Rattle.std.proofs.lemmas.List.Filters.{length-filter_more}
use Rattle.std.proofs.Math.Seq.{map-set_same}
use Rattle.std.specs.Io.KnownBytes.{Keeps}
use Rattle.wire_spec.specs.Content.{File, Stays, ChangesFile, no_file}
use Rattle.std.proofs.KnownBytes.{Keeps-trans}
use Rattle.ipe_io.specs.Real.{AreKept, FileState, all_put, no_file_state, told_file, told_files, unwritten, waits}

-- one file changed
pub one_changed : (tells : Bool) (files seen : List FileState) (at : ℕ) (there now : FileState) (change : File → File) → files ≡ seen → at < length seen
    → there ≡ get_or files at there → (tells ≡ true → told_file now ≡ change (told_file there))
    → ChangesFile (told_files tells seen) (told_files tells (set files at now)) at change
one_changed false files seen at there now change is within read changed = tt
one_changed true files seen at there now change is within read changed =
    let same : there ≡ get_or seen at there = read ∙ ap (λ s. get_or s at there) is in
    map-set told_file files at now
    ∙ ap (λ s. set (map told_file s) at (told_file now)) is
    ∙ ap (set (map told_file seen) at) (changed refl ∙ ap change (ap told_file same ∙ sym (get_or-map told_file seen at there no_file within)))

-- one file tells what it told before
pub none_changed : (tells : Bool) (files seen : List FileState) (at : ℕ) (there now : FileState) → files ≡ seen
    → there ≡ get_or files at there → (tells ≡ true → told_file now ≡ told_file there)
    → Stays (told_files tells seen) (told_files tells (set files at now))
none_changed false files seen at there now is read same = tt
none_changed true files seen at there now is read same = map-set_same told_file files at now there (same refl ∙ ap told_file read) ∙ ap (map told_file) is

-- one file is flushed of those that are kept
pub kept_after : (first files : List FileState) (at : ℕ) (was now : FileState) → AreKept first files → at < length files → was ≡ get_or files at was
    → now.name ≡ was.name → Keeps (all_put was.writer) (all_put now.writer) → AreKept first (set files at now)
kept_after first files at was now kept within read same_name same_bytes =
    let stood : was ≡ get_or files at no_file_state = read ∙ get_or_default files at was no_file_state within in
    let name : now.name ≡ (get_or files at no_file_state).name = same_name ∙ ap (λ (f : FileState). f.name) stood in
    let put : Keeps (all_put (get_or files at no_file_state).writer) (all_put now.writer) = subst (λ (f : FileState). Keeps (all_put f.writer) (all_put now.writer)) stood same_bytes in
    let here : (i : ℕ) → i ≡ at → get_or (set files at now) i no_file_state ≡ now = λ i e. ap (λ k. get_or (set files at now) k no_file_state) e ∙ get_or-set_same files at now no_file_state within in
    let there : (i : ℕ) → i ≢ at → get_or (set files at now) i no_file_state ≡ get_or files i no_file_state = λ i other. get_or-set_other files at i now no_file_state other in
    record {
      count = length-set files at now ∙ kept.count;
      names = λ i. ⊎_elim
          (λ e. ap (λ (f : FileState). f.name) (here i e) ∙ name ∙ ap (λ k. (get_or files k no_file_state).name) (sym e) ∙ kept.names i)
          (λ other. ap (λ (f : FileState). f.name) (there i other) ∙ kept.names i)
          (cases_eq i at);
      put = λ i. ⊎_elim
          (λ e. Keeps-trans (all_put (get_or first i no_file_state).writer) (all_put (get_or files i no_file_state).writer) (all_put (get_or (set files at now) i no_file_state).writer)
          (kept.put i)
          (subst (λ (f : FileState). Keeps (all_put (get_or files i no_file_state).writer) (all_put f.writer)) (sym (here i e))
          (subst (λ k. Keeps (all_put (get_or files k no_file_state).writer) (all_put now.writer)) (sym e) put)))
          (λ other. subst (λ (f : FileState). Keeps (all_put (get_or first i no_file_state).writer) (all_put f.writer)) (sym (there i other)) (kept.put i))
          (cases_eq i at);
    }

one_or_none : (some : Bool) → cond some 1 0 ≤ 1
one_or_none true = omega arith
one_or_none false = omega arith

more_waiting : (files : List FileState) (at : ℕ) (now : FileState) → at < length files
    → unwritten (take (at + 1) (set files at now)) ≡ unwritten (take at files) + cond (waits now) 1 0
more_waiting files at now within =
    length-filter_more waits (set files at now) at no_file_state (omega (arith, length-set files at now, within))
    ∙ ap (λ (l : List FileState). length (filter waits l) + cond (waits (get_or (set files at now) at no_file_state)) 1 0) (take-set files at now)
    ∙ ap (λ (f : FileState). unwritten (take at files) + cond (waits f) 1 0) (get_or-set_same files at now no_file_state within)

pub counted_failed : (files : List FileState) (at : ℕ) (now : FileState) (failed : ℕ) → at < length files → unwritten (take at files) ≤ failed
    → unwritten (take (at + 1) (set files at now)) ≤ failed + 1
counted_failed files at now failed within counted = omega (arith, more_waiting files at now within, one_or_none (waits now), counted)

pub counted_flushed : (files : List FileState) (at : ℕ) (now : FileState) (failed : ℕ) → at < length files → unwritten (take at files) ≤ failed
    → now.writer.waiting ≡ [] → unwritten (take (at + 1) (set files at now)) ≤ failed
counted_flushed files at now failed within counted empty =
    let none : cond (waits now) 1 0 ≡ 0 = ap (λ (l : List ℕ). let n : ℕ = cond (not (length l == 0)) 1 0 in n) empty in
    omega (arith, more_waiting files at now within, none, counted)
