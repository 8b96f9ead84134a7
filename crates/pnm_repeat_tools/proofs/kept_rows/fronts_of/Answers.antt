use Rattle.pnm_repeat_tools.proofs.Words.{◌∙◌, ap, map, take, List, ℕ}
use Rattle.pnm_repeat_tools.proofs.KeptRowLaws.{fronts_alike, fronts_of_cut}
use Rattle.pnm_repeat_tools.proofs.kept_rows.fronts_of.Goals as goal

pub returns-in_ok-fronts-in-Bits-clause-whole : goal.returns-in_ok-fronts-in-Bits-clause-whole
returns-in_ok-fronts-in-Bits-clause-whole c =
    let each = c.row_length-each.result in
    let same = c.in-Bits.ensures.rows each c.row_length-each.ensures.each in
    fronts_alike c.args.shown c.args.count c.args.rows.now
    (c.in_ok-fronts-in-Bits.ensures ∙ ap (λ (l : List (List ℕ)). map (take c.args.shown) (take c.args.count l)) same) c.requires.count c.requires.within

pub returns-in_ok-fronts-in-Bytes-clause-whole : goal.returns-in_ok-fronts-in-Bytes-clause-whole
returns-in_ok-fronts-in-Bytes-clause-whole c =
    let rows = c.args.rows.now in
    let each = c.row_length-each.result in
    (fronts_of_cut c.args.shown each c.args.count c.in-Bytes.bytes.now c.row_length-each.ensures.each
    c.row_length-each.ensures.some (c.in-Bytes.ensures.rows each c.row_length-each.ensures.each)
    (c.in-Bytes.ensures.whole each c.row_length-each.ensures.each) c.requires.count c.requires.within c.in_ok-fronts-in-Bytes.ensures).0

pub returns-in_ok-fronts-in-Bytes-clause-rows : goal.returns-in_ok-fronts-in-Bytes-clause-rows
returns-in_ok-fronts-in-Bytes-clause-rows c =
    let rows = c.args.rows.now in
    let each = c.row_length-each.result in
    (fronts_of_cut c.args.shown each c.args.count c.in-Bytes.bytes.now c.row_length-each.ensures.each
    c.row_length-each.ensures.some (c.in-Bytes.ensures.rows each c.row_length-each.ensures.each)
    (c.in-Bytes.ensures.whole each c.row_length-each.ensures.each) c.requires.count c.requires.within c.in_ok-fronts-in-Bytes.ensures).1

pub returns-in_ok-fronts-in-Words-clause-whole : goal.returns-in_ok-fronts-in-Words-clause-whole
returns-in_ok-fronts-in-Words-clause-whole c =
    let rows = c.args.rows.now in
    let each = c.row_length-each.result in
    (fronts_of_cut c.args.shown each c.args.count c.in-Words.words.now c.row_length-each.ensures.each
    c.row_length-each.ensures.some (c.in-Words.ensures.rows each c.row_length-each.ensures.each)
    (c.in-Words.ensures.whole each c.row_length-each.ensures.each) c.requires.count c.requires.within c.in_ok-fronts-in-Words.ensures).0

pub returns-in_ok-fronts-in-Words-clause-rows : goal.returns-in_ok-fronts-in-Words-clause-rows
returns-in_ok-fronts-in-Words-clause-rows c =
    let rows = c.args.rows.now in
    let each = c.row_length-each.result in
    (fronts_of_cut c.args.shown each c.args.count c.in-Words.words.now c.row_length-each.ensures.each
    c.row_length-each.ensures.some (c.in-Words.ensures.rows each c.row_length-each.ensures.each)
    (c.in-Words.ensures.whole each c.row_length-each.ensures.each) c.requires.count c.requires.within c.in_ok-fronts-in-Words.ensures).1
