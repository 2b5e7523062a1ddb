-- One file of a rack in memory that changes.
use Rattle.std.proofs.Common.{◌≡◌, ℕ, ◌+◌, ◌^◌, ◌<◌, ◌≤◌, List, [], ◌∷◌, ◌++◌, length, take, get_or, set, ap, sym, ◌∙◌, add-one, arith}
use Rattle.std.proofs.lemmas.List.{map-append, map-set, get_or-map, length-map, length-take, get_or-take}
use Rattle.std.proofs.Math.Seq.{take-set-lt, take-suc-set}
use Rattle.std.proofs.lemmas.Grind.{common_steps}
use Rattle.std.specs.Prelude.{All}
use Rattle.wire_spec.specs.Content.{File, no_file, empty_file}
use Rattle.ipe_io.specs.Memory.{Stored, files_of}

-- a place of a file that is seen is one of a stored file
pub seen_is_stored : (files : List Stored) (seen : List File) (used at : ℕ) → files_of (take used files) ≡ seen → at < length seen → at < length files
seen_is_stored files seen used at is lt = omega (arith, ap length is, length-map (take used files) (λ (s : Stored). s.file), length-take used files)

-- the file that is seen at a place is the stored one
pub file_there : (files : List Stored) (seen : List File) (used at : ℕ) (there : Stored) → files_of (take used files) ≡ seen → at < length seen
    → there ≡ get_or files at there → get_or seen at no_file ≡ there.file
file_there files seen used at there is lt read =
    let front : List Stored = take used files in
    let within : at < length (take used files) = omega (arith, ap length is, length-map front (λ (s : Stored). s.file)) in
    let below : at < used = omega (arith, within, length-take used files) in
    ap (λ s. get_or s at no_file) (sym is)
    ∙ get_or-map (λ (s : Stored). s.file) front at there no_file within
    ∙ ap (λ (s : Stored). s.file) (get_or-take used files at there below ∙ sym read)

-- where the stored file changes, so does the one that is seen, and no other
pub one_changed : (files : List Stored) (seen : List File) (used at : ℕ) (change : File → File) (before after : Stored)
    → files_of (take used files) ≡ seen → at < length seen → before ≡ get_or files at before → after.file ≡ change before.file
    → files_of (take used (set files at after)) ≡ set seen at (change (get_or seen at no_file))
one_changed files seen used at change before after is lt read changed =
    let front : List Stored = take used files in
    let within : at < length (take used files) = omega (arith, ap length is, length-map front (λ (s : Stored). s.file)) in
    let below : at < used = omega (arith, within, length-take used files) in
    ap files_of (take-set-lt used files at after below)
    ∙ map-set (λ (s : Stored). s.file) front at after
    ∙ ap (λ s. set s at after.file) is
    ∙ ap (set seen at) (changed ∙ ap change (sym (file_there files seen used at before is lt read)))

-- as many files are seen as are used
pub seen_are_used : (files : List Stored) (seen : List File) (used : ℕ) → files_of (take used files) ≡ seen → used ≤ length files → length seen ≡ used
seen_are_used files seen used is le = omega (arith, ap length is, length-map (take used files) (λ (s : Stored). s.file), length-take used files)

-- a file that begins at the first unused place follows those that are seen
pub one_added : (files : List Stored) (seen : List File) (used : ℕ) (name given : List ℕ) (after : Stored)
    → files_of (take used files) ≡ seen → used < length files → after.file ≡ empty_file given → given ≡ name
    → files_of (take (used + 1) (set files used after)) ≡ seen ++ empty_file name ∷ []
one_added files seen used name given after is lt begun same =
    ap (λ k. files_of (take k (set files used after))) (add-one used)
    ∙ ap files_of (take-suc-set files used after lt)
    ∙ map-append (λ (s : Stored). s.file) (take used files) (after ∷ [])
    ∙ ap (λ s. s ++ after.file ∷ []) is
    ∙ ap (λ f. seen ++ f ∷ []) (begun ∙ ap empty_file same)

-- where one stored file changes and keeps the room of all, all have it
all_room : (files : List Stored) (at room : ℕ) (after : Stored) → All (λ (f : Stored). f.room ≡ room) files → after.room ≡ room
    → All (λ (f : Stored). f.room ≡ room) (set files at after)
all_room files at room after all one = grind (arith, common_steps, all, one)

pub same_room : (files : List Stored) (used at room : ℕ) (after : Stored) → used ≤ length files → length files < 2 ^ 32 → All (λ (f : Stored). f.room ≡ room) files
    → after.room ≡ room
    → (used ≤ length (set files at after)) × (length (set files at after) < 2 ^ 32) × All (λ (f : Stored). f.room ≡ room) (set files at after)
same_room files used at room after most fits all one = (grind (arith, common_steps, most), grind (arith, common_steps, fits), all_room files at room after all one)
