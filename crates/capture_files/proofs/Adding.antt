-- Files of services that are added one after another.
use Rattle.std.proofs.Common.{◌≡◌, inl, inr, ℕ, suc, zero, ◌+◌, false, List, [], ◌∷◌, ◌++◌, length, take, get_or, set, refl, ap, ap₂, sym, ◌∙◌, subst, append_assoc, arith, Option, None, Some, IfSome}
use Rattle.std.specs.List.{slice_get}
use Rattle.std.proofs.lemmas.List.{append-nil, get_or_at, set_at}
use Rattle.std.proofs.lemmas.Option.{slice_get_within}
use Rattle.wire_spec.specs.Content.{File, AddsFile, ChangesFile, Stays, grown, empty_file, no_file}
use Rattle.plan_spec.specs.Plan.{ServiceFields}
use Rattle.pcap_file.specs.Capture.{capture_head}
use Rattle.capture_files.specs.Files.{file_name, file_with, files_from, head_of, AddsFiles, AddsCaptures, AddsHeads, AddsHeadsPart, AddsPart}

-- A new file that grew.

abbrev pub Counts : Option (List File) → ℕ → Type 0
Counts files count = IfSome files (λ told. length told ≡ count)

pub changed_at : (xs rest ys zs : List File) (at : ℕ) (file : File) (change : File → File) → length xs ≡ at → ys ≡ xs ++ file ∷ rest
    → zs ≡ set ys at (change (get_or ys at no_file)) → zs ≡ xs ++ change file ∷ rest
changed_at xs rest ys zs at file change size are changed =
    changed
    ∙ ap (λ (s : List File). set s at (change (get_or s at no_file))) are
    ∙ ap (λ (f : File). set (xs ++ file ∷ rest) at (change f)) (get_or_at xs file rest no_file at size)
    ∙ set_at xs file rest (change file) at size

adds_changed : (a b c : Option (List File)) (at count : ℕ) (file : File) (change : File → File) → Counts a count → at ≡ count
    → AddsFile a b file → ChangesFile b c at change → AddsFile a c (change file)
adds_changed None b c at count file change many place added changed = tt
adds_changed (Some xs) None c at count file change many place added changed = absurd added
adds_changed (Some xs) (Some ys) None at count file change many place added changed = absurd changed
adds_changed (Some xs) (Some ys) (Some zs) at count file change many place added changed = changed_at xs [] ys zs at file change (many ∙ sym place) added changed

pub adds_grown : (a b c : Option (List File)) (at count : ℕ) (name text bytes : List ℕ) → text ≡ file_name name → Counts a count → at ≡ count
    → AddsFile a b (empty_file text) → ChangesFile b c at (λ file. grown file bytes) → AddsFile a c (file_with false name bytes)
adds_grown a b c at count name text bytes named many place added put =
    adds_changed a b c at count (empty_file (file_name name)) (λ file. grown file bytes) many place
    (subst (λ (n : List ℕ). AddsFile a b (empty_file n)) named added) put

-- Files after files.

-- no file was added
pub adds_none : (a : Option (List File)) → AddsFiles a a []
adds_none None = tt
adds_none (Some files) = sym (append-nil files)

stays_none : (a b : Option (List File)) → AddsFiles a b [] → Stays a b
stays_none None b added = tt
stays_none (Some xs) None added = absurd added
stays_none (Some xs) (Some ys) added = added ∙ append-nil xs

-- of one service, no head is whole where the file could not be added
pub none_begun : (services : List ServiceFields) (a b : Option (List File)) (count counted : ℕ) → length services ≡ 1
    → (heads : AddsHeads services a b) × (counted ≡ count + heads.count) → (counted ≡ count) × Stays a b
none_begun services a b count counted one begun =
    let heads : AddsHeads services a b = begun.0 in
    let none : heads.count ≡ 0 = omega (arith, heads.fewer, one) in (
      omega (arith, begun.1, none),
      stays_none a b (subst (λ (k : ℕ). AddsCaptures false head_of (take k services) a b) none heads.files),
    )

pub adds_then : (a b c : Option (List File)) (xs : List File) (file : File) → AddsFiles a b xs → AddsFile b c file → AddsFiles a c (xs ++ file ∷ [])
adds_then None b c xs file first then = tt
adds_then (Some olds) None c xs file first then = absurd first
adds_then (Some olds) (Some bs) None xs file first then = absurd then
adds_then (Some olds) (Some bs) (Some cs) xs file first then = then ∙ ap (λ (t : List File). t ++ file ∷ []) first ∙ append_assoc olds xs (file ∷ [])

pub adds_stay : (a b c : Option (List File)) (xs : List File) → AddsFiles a b xs → Stays b c → AddsFiles a c xs
adds_stay None b c xs first stays = tt
adds_stay (Some olds) None c xs first stays = absurd first
adds_stay (Some olds) (Some bs) None xs first stays = absurd stays
adds_stay (Some olds) (Some bs) (Some cs) xs first stays = stays ∙ first

-- what services in order give, the first of them with a number, and one service more
module _ {X : Type 0} (one : ℕ → ServiceFields → List X) (all : ℕ → List ServiceFields → List X) (none : (k : ℕ) → all k [] ≡ [])
    (next : (k : ℕ) (service : ServiceFields) (services : List ServiceFields) → all k (service ∷ services) ≡ one k service ++ all (k + 1) services) where
  from_next : (from : ℕ) (services : List ServiceFields) (k : ℕ) (service : ServiceFields) → slice_get services k ≡ Some service
      → all from (take (suc k) services) ≡ all from (take k services) ++ one (from + k) service
  from_next from [] k service there = absurd (omega (arith, slice_get_within [] k service there))
  from_next from (s ∷ services) zero service there =
      let same : s ≡ service = cc in
      let first : from ≡ from + 0 = omega arith in
      next from s [] ∙ ap (λ (t : List X). one from s ++ t) (none (from + 1)) ∙ append-nil (one from s)
      ∙ ap₂ one first same ∙ ap (λ (t : List X). t ++ one (from + 0) service) (sym (none from))
  from_next from (s ∷ services) (suc k) service there =
      let on : from + 1 + k ≡ from + suc k = omega arith in
      next from s (take (suc k) services)
      ∙ ap (λ (t : List X). one from s ++ t) (from_next (from + 1) services k service there)
      ∙ sym (append_assoc (one from s) (all (from + 1) (take k services)) (one (from + 1 + k) service))
      ∙ ap₂ (λ (t : List X) (n : ℕ). t ++ one n service) (sym (next from s (take k services))) on

  pub numbered_next : (services : List ServiceFields) (k : ℕ) (service : ServiceFields) → slice_get services k ≡ Some service
      → all 0 (take (k + 1) services) ≡ all 0 (take k services) ++ one k service
  numbered_next services k service there =
      let on : k + 1 ≡ suc k = omega arith in
      let here : 0 + k ≡ k = omega arith in
      ap (λ (n : ℕ). all 0 (take n services)) on ∙ from_next 0 services k service there ∙ ap (λ (n : ℕ). all 0 (take k services) ++ one n service) here

pub captures_next : (text : ℕ → List ℕ) (services : List ServiceFields) (k : ℕ) (service : ServiceFields) (a b c : Option (List File)) → slice_get services k ≡ Some service
    → AddsCaptures false text (take k services) a b → AddsFile b c (file_with false service.name (text k)) → AddsCaptures false text (take (k + 1) services) a c
captures_next text services k service a b c there before added =
    subst (λ (files : List File). AddsFiles a c files)
    (sym (numbered_next (λ n s. file_with false s.name (text n) ∷ []) (λ n ss. files_from false n text ss) (λ n. refl) (λ n s ss. refl) services k service there))
    (adds_then a b c (files_from false 0 text (take k services)) (file_with false service.name (text k)) before added)

-- the next file was added with less than its head, or not at all
pub heads_part_of_next : (services : List ServiceFields) (k : ℕ) (service : ServiceFields) (a b c : Option (List File)) → slice_get services k ≡ Some service
    → AddsCaptures false head_of (take k services) a b → AddsPart service.name b c → AddsHeadsPart services k a c
heads_part_of_next services k service a b c there before part = record {
  service = service;
  next = there;
  files = elim part [
    | inl same ↦ inl (adds_stay a b c (files_from false 0 head_of (take k services)) before same)
    | inr some ↦ inr (
      some.0,
      some.1,
      adds_then a b c (files_from false 0 head_of (take k services)) (file_with false service.name (take some.0 capture_head)) before some.2,
    )
  ];
}
