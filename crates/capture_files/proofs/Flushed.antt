-- Files that are flushed, one after another.
use Rattle.std.proofs.Common.{◌≡◌, ℕ, ◌+◌, ◌<◌, List, [], ◌∷◌, ◌++◌, length, map, take, drop, get_or, ap, sym, ◌∙◌, arith, append_assoc, length-append, length-drop, Option, None, Some}
use Rattle.std.proofs.lemmas.List.{drop_more, map_more, length-map, length-take}
use Rattle.wire_spec.specs.Content.{File, ChangesFile, flushed_file, no_file}
use Rattle.ipe_io.proofs.Told.{IsThere}
use Rattle.capture_files.specs.Flushes.{Flush}
use Rattle.capture_files.proofs.Adding.{changed_at}

pub flush_next : (a b c : Option (List File)) (first k : ℕ) → IsThere b (first + k) → Flush a b first k → ChangesFile b c (first + k) flushed_file → Flush a c first (k + 1)
flush_next None b c first k there before changed = tt
flush_next (Some a) None c first k there before changed = absurd before
flush_next (Some a) (Some b) None first k there before changed = absurd changed
flush_next (Some a) (Some b) (Some c) first k there before changed =
    let xs : List File = drop first a in
    let done : List File = map flushed_file (take k xs) in
    let x : File = get_or xs k no_file in
    let rest : List File = drop (k + 1) xs in
    let sizes : length (take first a ++ done) + length (drop k xs) ≡ length b =
    omega (arith, ap length before.files, length-append (take first a) (done ++ drop k xs), length-append done (drop k xs), length-append (take first a) done) in
    let low : k < length xs = omega (arith, there, sizes, length-append (take first a) done, length-take first a, length-map (take k xs) flushed_file, length-take k xs, length-drop k xs, length-drop first a) in
    let size : length (take first a ++ done) ≡ first + k =
    omega (arith, low, length-append (take first a) done, length-take first a, length-map (take k xs) flushed_file, length-take k xs, length-drop first a) in
    record {
      files =
          changed_at (take first a ++ done) rest b c (first + k) x flushed_file size
          (before.files ∙ ap (λ (t : List File). take first a ++ (done ++ t)) (drop_more xs k no_file low) ∙ sym (append_assoc (take first a) done (x ∷ rest))) changed
          ∙ append_assoc (take first a) done (flushed_file x ∷ rest)
          ∙ ap (λ (t : List File). take first a ++ t)
          (sym (append_assoc done (flushed_file x ∷ []) rest) ∙ ap (λ (t : List File). t ++ rest) (sym (map_more flushed_file xs k no_file low)));
    }
