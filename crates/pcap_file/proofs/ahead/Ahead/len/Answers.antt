use Rattle.std.proofs.Common.{ℕ, List, take, arith, length-drop}
use Rattle.std.proofs.lemmas.List.{length-take-le}
use Rattle.pcap_file.proofs.ahead.Ahead.len.Goals as goal

pub returns-clause-read : goal.returns-clause-read
returns-clause-read c =
    let items : List ℕ = c.args.self.now.buffer.items in
    omega (arith, length-drop c.args.self.now.from (take c.args.self.now.to items), length-take-le c.args.self.now.to items c.requires.fits)
