use Rattle.std.proofs.Common.{◌≡◌, ◌∙◌, ℕ, sym, ap, refl, subst, true, false, [], ◌∷◌, ◌++◌, Bool, ◌&&◌, Option, None, is_some}
use Rattle.ts_spec.specs.Packet.{is_packet}
use Rattle.ts_spec.specs.Recording.{Record}
use Rattle.service_reception.specs.Reception.{packet_record}
use Rattle.psi_spec.specs.Named.{pat_of}
use Rattle.psi_tables.specs.Watching.{FinderState, HasSeen}
use Rattle.psi_tables.proofs.Seen.{seen_stays, off_all, seen_after, seen_before, seen_first, first_comes, same_record, finder_of}
use Rattle.psi_tables.proofs.finder.Finder.step_record.Goals as goal

pub returns-in_default-clause-seen : goal.returns-in_default-clause-seen
returns-in_default-clause-seen c = λ records seen.
    seen_stays c.args.self.now records _ (off_all _ (ap (λ (o : Option ℕ). is_some o && is_packet c.args.bytes.now) c.in_default.is)) seen

pub returns-in_default-parse-clause-seen : goal.returns-in_default-parse-clause-seen
returns-in_default-parse-clause-seen c = λ records seen.
    seen_stays c.args.self.now records _
    (off_all _ (ap (λ (b : Bool). is_some c.args.moment && b) (sym c.in_default-parse.ensures.readable) ∙ ap (λ (o : Option ℕ). is_some o && false) c.in-Some.is)) seen

pub returns-then-had_pat-clause-seen : goal.returns-then-had_pat-clause-seen
returns-then-had_pat-clause-seen c = λ records seen.
    subst (λ (r : Record). HasSeen (finder_of c.self.inside.pid c.take.new.self c.take-2.new.self c.take_all.new.watches.items c.self.inside.is_open) (records ++ r ∷ [])) (same_record c.args.moment c.in-Some.moment c.args.bytes.now c.in-Some.is)
    (seen_after (finder_of c.self.inside.pid c.self.inside.int c.self.inside.pat c.self.inside.pmts.items c.self.inside.is_open) (finder_of c.self.inside.pid c.take.new.self c.take-2.new.self c.take_all.new.watches.items c.self.inside.is_open) records (packet_record c.in-Some.moment c.args.bytes.now) c.take.ensures.watched c.take.ensures.pid c.take.ensures.wanted c.take-2.ensures.watched c.take-2.ensures.pid c.take-2.ensures.wanted
    c.take_all.ensures.watched refl (sym (c.if-had_pat.ensures)) (subst (λ (f : FinderState). HasSeen f records) (sym c.self.view_is) seen))

pub returns-in_default-found-clause-seen : goal.returns-in_default-found-clause-seen
returns-in_default-found-clause-seen c = λ records seen.
    subst (λ (r : Record). HasSeen (finder_of c.self.inside.pid c.take.new.self c.take-2.new.self c.take_all.new.watches.items c.self.inside.is_open) (records ++ r ∷ [])) (same_record c.args.moment c.in-Some.moment c.args.bytes.now c.in-Some.is)
    (seen_before (finder_of c.self.inside.pid c.self.inside.int c.self.inside.pat c.self.inside.pmts.items c.self.inside.is_open) (finder_of c.self.inside.pid c.take.new.self c.take-2.new.self c.take_all.new.watches.items c.self.inside.is_open) records (packet_record c.in-Some.moment c.args.bytes.now) c.take.ensures.watched c.take.ensures.pid c.take.ensures.wanted c.take-2.ensures.watched c.take-2.ensures.pid c.take-2.ensures.wanted
    c.take_all.ensures.none refl (sym (c.if-had_pat.ensures)) (sym c.in_default-found.ensures) (subst (λ (f : FinderState). HasSeen f records) (sym c.self.view_is) seen))

pub returns-in-Ok-watch_programs-clause-seen : goal.returns-in-Ok-watch_programs-clause-seen
returns-in-Ok-watch_programs-clause-seen c = λ records seen.
    subst (λ (r : Record). HasSeen (finder_of c.self.inside.pid c.take.new.self c.take-2.new.self c.in-Ok-watch_programs.pmts.items c.self.inside.is_open) (records ++ r ∷ [])) (same_record c.args.moment c.in-Some.moment c.args.bytes.now c.in-Some.is)
    (seen_first (finder_of c.self.inside.pid c.self.inside.int c.self.inside.pat c.self.inside.pmts.items c.self.inside.is_open) (finder_of c.self.inside.pid c.take.new.self c.take-2.new.self c.in-Ok-watch_programs.pmts.items c.self.inside.is_open) records (packet_record c.in-Some.moment c.args.bytes.now) c.take.ensures.watched c.take.ensures.pid c.take.ensures.wanted c.take-2.ensures.watched c.take-2.ensures.pid c.take-2.ensures.wanted
    c.in-Some-found.section.now refl (sym (c.if-had_pat.ensures)) (sym c.in-Some-found.ensures) c.in-Ok-watch_programs.ensures (subst (λ (f : FinderState). HasSeen f records) (sym c.self.view_is) seen))

pub returns-in-Err-clause-memory : goal.returns-in-Err-clause-memory
returns-in-Err-clause-memory c = λ records seen.
    subst (λ (r : Record). (pat_of records ≡ None) × (is_some (pat_of (records ++ r ∷ [])) ≡ true)) (same_record c.args.moment c.in-Some.moment c.args.bytes.now c.in-Some.is)
    (first_comes (finder_of c.self.inside.pid c.self.inside.int c.self.inside.pat c.self.inside.pmts.items c.self.inside.is_open) (finder_of c.self.inside.pid c.take.new.self c.take-2.new.self c.take_all.new.watches.items c.self.inside.is_open) records (packet_record c.in-Some.moment c.args.bytes.now) c.take.ensures.watched c.take.ensures.pid c.take.ensures.wanted c.take-2.ensures.watched c.take-2.ensures.pid c.take-2.ensures.wanted
    c.in-Some-found.section.now (sym (c.if-had_pat.ensures)) (sym c.in-Some-found.ensures) (subst (λ (f : FinderState). HasSeen f records) (sym c.self.view_is) seen))
