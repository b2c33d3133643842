use Rattle.std.proofs.Common.{arith, ap, ◌≡◌, ◌+◌, ℕ, get_or}
use Rattle.octets.specs.Octets.{be16_at, be32_at}
use Rattle.octets_get.proofs.be32.Goals as goal

-- be32_at is two halves, so that its last octet stands at at + 2 + 1
pub returns : goal.returns
unfolding be16_at be32_at
returns c =
    let z : c.args.at + 2 + 1 ≡ c.args.at + 3 = omega arith in
    let last = ap (λ (k : ℕ). get_or c.args.s.now k 0) z in
    let e = c.from_be_bytes.ensures in omega arith
