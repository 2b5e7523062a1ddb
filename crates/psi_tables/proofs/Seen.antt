-- A finder, with one record more.
use Rattle.std.proofs.Common.{◌≡◌, ℕ, zero, suc, ◌<◌, ◌≤◌, arith, length, Bool, true, false, cond, ◌&&◌, ◌==◌, List, [], ◌∷◌, ◌++◌, find, refl, ap, sym, ◌∙◌, subst, Option, None, Some, is_some}
use Rattle.std.specs.Prelude.{slice_get}
use Rattle.ts_spec.specs.Packet.{fields_of, is_packet}
use Rattle.psi_tables.specs.First.{wants}
use Rattle.ts_spec.specs.Recording.{Record}
use Rattle.reception_spec.specs.Packets.{is_on}
use Rattle.psi_spec.specs.Pat.{ProgramFields, is_pat, pat_fields}
use Rattle.psi_spec.specs.Named.{sections_on, pat_of, after_pat}
use Rattle.psi_tables.specs.Watching.{HasWatched, IsWatching, WatchesPrograms, WatchesPmts, FinderState, HasSeen}
use Rattle.psi_tables.specs.declared.first.Wanted.{Wanted}
use Rattle.psi_tables.specs.declared.first.Wanted.TheVariants as wanted
use Rattle.psi_tables.specs.declared.watch.Watch.{Watch}
use Rattle.psi_tables.proofs.Sections.{same_sections}
use Rattle.psi_tables.proofs.AfterPat.{pat_stays, after_next, nothing_after, none_is, some_is}
use Rattle.service_reception.specs.Reception.{packet_record}
use Rattle.psi_tables.proofs.Watched.{watch_stays}
use Rattle.std.proofs.lemmas.Option.{slice_get_within}
use Rattle.psi_tables.proofs.Places.{AreSet, some_at}

-- after the PAT, each watch has the record too
pub pmts_next : (records : List Record) (r : Record) (section : List ℕ) (old new : List Watch) → pat_of records ≡ Some section → WatchesPmts (pat_of records) old (after_pat records)
    → ((programs : List ProgramFields) (after : List Record) → WatchesPrograms programs old after → WatchesPrograms programs new (after ++ r ∷ []))
    → WatchesPmts (pat_of (records ++ r ∷ [])) new (after_pat (records ++ r ∷ []))
pmts_next records r section old new found watches taken =
    subst (λ (o : Option (List ℕ)). WatchesPmts o new (after_pat (records ++ r ∷ []))) (sym (pat_stays records r section found))
    (subst (λ (after : List Record). WatchesPrograms (pat_fields section).programs new after) (sym (after_next records r section found))
    (taken (pat_fields section).programs (after_pat records)
    (subst (λ (o : Option (List ℕ)). WatchesPmts o old (after_pat records)) found watches)))

-- without one there is no watch
pub pmts_none : (records : List Record) (watches : List Watch) → pat_of records ≡ None → watches ≡ [] → WatchesPmts (pat_of records) watches (after_pat records)
pmts_none records watches none empty = subst (λ (o : Option (List ℕ)). WatchesPmts o watches (after_pat records)) (sym none) empty

pub none_watched : (records : List Record) (watches : List Watch) → pat_of records ≡ None → WatchesPmts (pat_of records) watches (after_pat records) → watches ≡ []
none_watched records watches none is = subst (λ (o : Option (List ℕ)). WatchesPmts o watches (after_pat records)) none is

-- with the record of its last byte they begin
pub pmts_begin : (records : List Record) (r : Record) (section : List ℕ) (watches : List Watch) → pat_of records ≡ None → pat_of (records ++ r ∷ []) ≡ Some section
    → WatchesPrograms (pat_fields section).programs watches [] → WatchesPmts (pat_of (records ++ r ∷ [])) watches (after_pat (records ++ r ∷ []))
pmts_begin records r section watches none found fresh =
    subst (λ (o : Option (List ℕ)). WatchesPmts o watches (after_pat (records ++ r ∷ []))) (sym found)
    (subst (λ (after : List Record). WatchesPrograms (pat_fields section).programs watches after) (sym (nothing_after records r none)) fresh)

-- a record that is a packet of no PID changes nothing
pub watching_stays : (w : Wanted) (pid : ℕ) (watch : Watch) (records : List Record) (r : Record) → ((p : ℕ) → is_on p r ≡ false)
    → IsWatching w pid watch records → IsWatching w pid watch (records ++ r ∷ [])
watching_stays w pid watch records r off is = record {
  wanted_is = is.wanted_is;
  pid_is = is.pid_is;
  watched = watch_stays watch records r (off watch.pid) is.watched;
}

programs_stay : (programs : List ProgramFields) (watches : List Watch) (after : List Record) (r : Record) → ((p : ℕ) → is_on p r ≡ false)
    → WatchesPrograms programs watches after → WatchesPrograms programs watches (after ++ r ∷ [])
programs_stay programs watches after r off is = record {
  size = is.size;
  each = λ k program watch there here. watching_stays _ program.pid watch after r off (is.each k program watch there here);
}

pub seen_stays : (finder : FinderState) (records : List Record) (r : Record) → ((p : ℕ) → is_on p r ≡ false) → HasSeen finder records → HasSeen finder (records ++ r ∷ [])
seen_stays finder records r off seen = record {
  int = watching_stays wanted.Int finder.pid finder.int records r off seen.int;
  pat = watching_stays wanted.Pat 0 finder.pat records r off seen.pat;
  pmts = by_pat (pat_of records) refl;
}
  where
    by_pat : (o : Option (List ℕ)) → pat_of records ≡ o → WatchesPmts (pat_of (records ++ r ∷ [])) finder.pmts (after_pat (records ++ r ∷ []))
    by_pat None none =
        pmts_none (records ++ r ∷ []) finder.pmts (ap (find is_pat) (same_sections 0 records r (off 0)) ∙ none) (none_watched records finder.pmts none seen.pmts)
    by_pat (Some section) found =
        pmts_next records r section finder.pmts finder.pmts found seen.pmts (λ programs after is. programs_stay programs finder.pmts after r off is)

-- a watch took a record
pub record HasTaken (r : Record) (old new : Watch) : Type 0 where
  pub watched : (records : List Record) → HasWatched old records → HasWatched new (records ++ r ∷ [])
  pub pid_is : new.pid ≡ old.pid
  pub wanted_is : new.first.wanted ≡ old.first.wanted

pub is_watching : (r : Record) (old new : Watch) (w : Wanted) (pid : ℕ) (records : List Record) → HasTaken r old new → IsWatching w pid old records → IsWatching w pid new (records ++ r ∷ [])
is_watching r old new w pid records taken is = record {
  wanted_is = taken.wanted_is ∙ is.wanted_is;
  pid_is = taken.pid_is ∙ is.pid_is;
  watched = taken.watched records is.watched;
}

pub all_taken_none : (olds news : List Watch) → length news ≡ length olds → olds ≡ [] → news ≡ []
all_taken_none olds [] size none = refl
all_taken_none olds (x ∷ news) size none = absurd (omega (arith, size, ap (λ (l : List Watch). length l) none))

pub all_taken_programs : (r : Record) (olds news : List Watch) (at : ℕ) → length news ≡ length olds → length olds ≤ at → AreSet (HasTaken r) at olds news
    → (programs : List ProgramFields) (records : List Record) → WatchesPrograms programs olds records → WatchesPrograms programs news (records ++ r ∷ [])
all_taken_programs r olds news at size all done programs records is = record {
  size = size ∙ is.size;
  each = λ k program watch there here.
      let below : k < length olds = omega (arith, slice_get_within news k watch here, size) in
      let old = some_at olds k below in
      is_watching r old.0 watch _ program.pid records (done k old.0 watch (omega (arith, below, all)) old.1 here) (is.each k program old.0 there old.1);
}

-- one program more is watched
pub programs_more : (programs : List ProgramFields) (watches : List Watch) (program : ProgramFields) (watch : Watch) (records : List Record) → WatchesPrograms programs watches records
    → IsWatching (wanted.Pmt program.number) program.pid watch records → WatchesPrograms (programs ++ program ∷ []) (watches ++ watch ∷ []) records
programs_more [] [] program watch records is one = record {
  size = refl;
  each = λ k p w there here. first k p w there here;
}
  where
    first : (k : ℕ) (p : ProgramFields) (w : Watch) → slice_get (program ∷ []) k ≡ Some p → slice_get (watch ∷ []) k ≡ Some w → IsWatching (wanted.Pmt p.number) p.pid w records
    first zero p w there here =
        let same_program : program ≡ p = cc in
        let same_watch : watch ≡ w = cc in
        subst (λ (q : ProgramFields). IsWatching (wanted.Pmt q.number) q.pid w records) same_program
        (subst (λ (x : Watch). IsWatching (wanted.Pmt program.number) program.pid x records) same_watch one)
    first (suc k) p w there here = absurd (cc)
programs_more [] (w ∷ watches) program watch records is one = absurd (omega (arith, is.size))
programs_more (p ∷ programs) [] program watch records is one = absurd (omega (arith, is.size))
programs_more (p ∷ programs) (w ∷ watches) program watch records is one =
    let rest : WatchesPrograms (programs ++ program ∷ []) (watches ++ watch ∷ []) records =
    programs_more programs watches program watch records (record { size = omega (arith, is.size); each = λ k q v there here. is.each (suc k) q v there here }) one in
    record { size = omega (arith, rest.size); each = λ k q v there here. later (is.each 0) rest.each k q v there here }
  where
    later : ((q : ProgramFields) (v : Watch) → Some p ≡ Some q → Some w ≡ Some v → IsWatching (wanted.Pmt q.number) q.pid v records)
        → ((k : ℕ) (q : ProgramFields) (v : Watch) → slice_get (programs ++ program ∷ []) k ≡ Some q → slice_get (watches ++ watch ∷ []) k ≡ Some v → IsWatching (wanted.Pmt q.number) q.pid v records)
        → (k : ℕ) (q : ProgramFields) (v : Watch) → slice_get (p ∷ programs ++ program ∷ []) k ≡ Some q → slice_get (w ∷ watches ++ watch ∷ []) k ≡ Some v → IsWatching (wanted.Pmt q.number) q.pid v records
    later head tail zero q v there here = head q v there here
    later head tail (suc k) q v there here = tail k q v there here

-- what was found passes
pub finds_right : (p : List ℕ → Bool) (xs : List (List ℕ)) (x : List ℕ) → find p xs ≡ Some x → p x ≡ true
finds_right p [] x found = absurd (cc)
finds_right p (y ∷ ys) x found = by_test (finds_right p ys x) (p y) refl found
  where
    by_test : (find p ys ≡ Some x → p x ≡ true) → (b : Bool) → p y ≡ b → cond {A = Option (List ℕ)} b (Some y) (find p ys) ≡ Some x → p x ≡ true
    by_test later true e found =
        let same : y ≡ x = cc in ap p (sym same) ∙ e
    by_test later false e found = later found

-- A packet that is read, step by step.

-- the record is a packet of no PID
pub off_all : (r : Record) → (is_some r.moment && is_packet r.bytes) ≡ false → (p : ℕ) → is_on p r ≡ false
off_all r off p = by_tests (is_some r.moment) (is_packet r.bytes) off
  where
    by_tests : (a b : Bool) → (a && b) ≡ false → (a && (b && ((fields_of r.bytes).pid == p))) ≡ false
    by_tests false b e = refl
    by_tests true false e = refl
    by_tests true true e = absurd (cc)

-- a watch took it
pub takes : (w : Wanted) (pid : ℕ) (old new : Watch) (records : List Record) (r : Record) → ((rs : List Record) → HasWatched old rs → HasWatched new (rs ++ r ∷ []))
    → new.pid ≡ old.pid → new.first.wanted ≡ old.first.wanted → IsWatching w pid old records → IsWatching w pid new (records ++ r ∷ [])
takes w pid old new records r watched pid_is wanted_is is =
    is_watching r old new w pid records (record { watched = watched; pid_is = pid_is; wanted_is = wanted_is }) is

-- the watch for the PAT tells whether there is one
pub pat_told : (watch : Watch) (records : List Record) → IsWatching wanted.Pat 0 watch records → watch.first.found ≡ pat_of records
pat_told watch records is =
    is.watched.found_is
    ∙ ap (λ (w : Wanted). find (wants w) (sections_on watch.pid records)) is.wanted_is
    ∙ ap (λ (p : ℕ). find is_pat (sections_on p records)) is.pid_is

pub same_record : (o : Option ℕ) (moment : ℕ) (bytes : List ℕ) → o ≡ Some moment → packet_record moment bytes ≡ record { moment = o; bytes = bytes }
same_record o moment bytes is = ap (λ (m : Option ℕ). record { moment = m; bytes = bytes }) (sym is)

-- a finder by its parts
abbrev pub finder_of : ℕ → Watch → Watch → List Watch → Bool → FinderState
finder_of pid int pat pmts is_open = record { pid = pid; int = int; pat = pat; pmts = pmts; is_open = is_open }

-- what each watch makes of a record
module _ (old new : FinderState) (records : List Record) (r : Record)
    (int_took : (rs : List Record) → HasWatched old.int rs → HasWatched new.int (rs ++ r ∷ [])) (int_pid : new.int.pid ≡ old.int.pid) (int_wanted : new.int.first.wanted ≡ old.int.first.wanted)
    (pat_took : (rs : List Record) → HasWatched old.pat rs → HasWatched new.pat (rs ++ r ∷ [])) (pat_pid : new.pat.pid ≡ old.pat.pid) (pat_wanted : new.pat.first.wanted ≡ old.pat.first.wanted) where
  int_next : new.pid ≡ old.pid → HasSeen old records → IsWatching wanted.Int new.pid new.int (records ++ r ∷ [])
  int_next same seen =
      subst (λ (p : ℕ). IsWatching wanted.Int p new.int (records ++ r ∷ [])) (sym same) (takes wanted.Int old.pid old.int new.int records r int_took int_pid int_wanted seen.int)

  pat_next : HasSeen old records → IsWatching wanted.Pat 0 new.pat (records ++ r ∷ [])
  pat_next seen = takes wanted.Pat 0 old.pat new.pat records r pat_took pat_pid pat_wanted seen.pat

  -- the PAT came before
  pub seen_after : ((programs : List ProgramFields) (rs : List Record) → WatchesPrograms programs old.pmts rs → WatchesPrograms programs new.pmts (rs ++ r ∷ []))
      → new.pid ≡ old.pid → is_some old.pat.first.found ≡ true → HasSeen old records → HasSeen new (records ++ r ∷ [])
  seen_after took same had seen =
      let there : (x : List ℕ) × (pat_of records ≡ Some x) = some_is (pat_of records) (ap is_some (sym (pat_told old.pat records seen.pat)) ∙ had) in
      record {
        int = int_next same seen;
        pat = pat_next seen;
        pmts = pmts_next records r there.0 old.pmts new.pmts there.1 seen.pmts took;
      }

  -- no PAT came
  pub seen_before : (old.pmts ≡ [] → new.pmts ≡ []) → new.pid ≡ old.pid → is_some old.pat.first.found ≡ false → new.pat.first.found ≡ None
      → HasSeen old records → HasSeen new (records ++ r ∷ [])
  seen_before took same had none seen =
      let none_before : pat_of records ≡ None = none_is (pat_of records) (ap is_some (sym (pat_told old.pat records seen.pat)) ∙ had) in
      let none_now : pat_of (records ++ r ∷ []) ≡ None = sym (pat_told new.pat (records ++ r ∷ []) (pat_next seen)) ∙ none in
      record {
        int = int_next same seen;
        pat = pat_next seen;
        pmts = pmts_none (records ++ r ∷ []) new.pmts none_now (took (none_watched records old.pmts none_before seen.pmts));
      }

  -- it came with the record
  pub seen_first : (section : List ℕ) → new.pid ≡ old.pid → is_some old.pat.first.found ≡ false → new.pat.first.found ≡ Some section
      → (is_pat section ≡ true → WatchesPrograms (pat_fields section).programs new.pmts []) → HasSeen old records → HasSeen new (records ++ r ∷ [])
  seen_first section same had found fresh seen =
      let none_before : pat_of records ≡ None = none_is (pat_of records) (ap is_some (sym (pat_told old.pat records seen.pat)) ∙ had) in
      let found_now : pat_of (records ++ r ∷ []) ≡ Some section = sym (pat_told new.pat (records ++ r ∷ []) (pat_next seen)) ∙ found in
      record {
        int = int_next same seen;
        pat = pat_next seen;
        pmts = pmts_begin records r section new.pmts none_before found_now (fresh (finds_right is_pat (sections_on 0 (records ++ r ∷ [])) section found_now));
      }

  -- and whether it did
  pub first_comes : (section : List ℕ) → is_some old.pat.first.found ≡ false → new.pat.first.found ≡ Some section → HasSeen old records
      → (pat_of records ≡ None) × (is_some (pat_of (records ++ r ∷ [])) ≡ true)
  first_comes section had found seen = (
    none_is (pat_of records) (ap is_some (sym (pat_told old.pat records seen.pat)) ∙ had),
    ap is_some (sym (pat_told new.pat (records ++ r ∷ []) (pat_next seen)) ∙ found),
  )
