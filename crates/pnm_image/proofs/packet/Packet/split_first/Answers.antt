use Rattle.std.proofs.Common.{◌≡◌, ◌++◌, None, rules}
use Rattle.pnm_image.specs.Packets.{packet_list}
use Rattle.pnm_image.specs.Parts.{part_list}
use Rattle.pnm_image.specs.Rows.{rows_list}
use Rattle.pnm_image.proofs.PartLaws.{behind_rows}
use Rattle.pnm_image.proofs.packet.Packet.split_first.Goals as goal

-- a row comes first
pub returns-clause-parts : goal.returns-clause-parts
returns-clause-parts c =
    let parts = c.into_parts-head.result in
    let none : parts.0 ≡ None = search rules in
    let all : c.in-Some.rows ≡ c.once.result ++ rows_list c.map-2.result = search rules in
    let rest : packet_list c.map-3.result ≡ part_list c.of-rest-2.result = search rules in
    rw (c.in-Part.is, c.into_parts-head.ensures.parts, none, c.in-Some.is, c.rows.ensures, rest, c.of-rest-2.ensures.parts)
    (behind_rows c.in-Some.rows c.once.result c.map-2.result parts.2 all)
