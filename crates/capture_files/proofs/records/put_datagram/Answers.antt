use Rattle.std.proofs.Common.{◌≡◌, ◌++◌, ◌+◌, ◌<◌, List, ℕ, length, take, ap, sym, ◌∙◌, subst}
use Rattle.wire_spec.specs.Content.{ChangesFile, grown}
use Rattle.pcap_file.specs.Capture.{capture_record}
use Rattle.ipe_io.proofs.Told.{is_there, changes-trans}
use Rattle.capture_files.proofs.Texts.{head_size, part_then, less_then}
use Rattle.capture_files.proofs.records.put_datagram.Goals as goal

pub returns-in-Ok-clause-written : goal.returns-in-Ok-clause-written
returns-in-Ok-clause-written g c =
    changes-trans (g.R.Rack.told c.args.rack.now).files (g.R.Rack.told c.put_piece.new.rack).files (g.R.Rack.told c.put_piece-2.new.rack).files c.args.at c.head-start.result c.args.datagram.now (capture_record c.args.datagram.now)
    (sym (ap (λ (h : List ℕ). h ++ c.args.datagram.now) c.head-start.ensures.written))
    (is_there (g.R.Rack.told c.args.rack.now).files c.args.at (g.R.Rack.told c.args.rack.now).count (g.met.R.Rack.as_many c.args.rack.now) c.requires)
    c.in_ok-put_piece.ensures.written c.in-Ok.ensures.written

pub returns-in-Err-clause-part : goal.returns-in-Err-clause-part
returns-in-Err-clause-part g c =
    let text : List ℕ = capture_record c.args.datagram.now in
    let e : c.head-start.result ++ c.args.datagram.now ≡ text = ap (λ (h : List ℕ). h ++ c.args.datagram.now) c.head-start.ensures.written in
    let size : length c.head-start.result ≡ 16 = ap length c.head-start.ensures.written ∙ head_size (length c.args.datagram.now) in (
      subst (λ (n : ℕ). n + c.in-Err.put < length text) size (less_then c.in-Err.put c.head-start.result c.args.datagram.now text e c.in-Err.ensures.part.0),
      subst (λ (n : ℕ). ChangesFile (g.R.Rack.told c.args.rack.now).files (g.R.Rack.told c.put_piece-2.new.rack).files c.args.at (λ file. grown file (take (n + c.in-Err.put) text))) size
          (part_then (g.R.Rack.told c.args.rack.now).files (g.R.Rack.told c.put_piece.new.rack).files (g.R.Rack.told c.put_piece-2.new.rack).files c.args.at c.in-Err.put c.head-start.result c.args.datagram.now text e
          (is_there (g.R.Rack.told c.args.rack.now).files c.args.at (g.R.Rack.told c.args.rack.now).count (g.met.R.Rack.as_many c.args.rack.now) c.requires)
          c.in_ok-put_piece.ensures.written c.in-Err.ensures.part.1),
    )
