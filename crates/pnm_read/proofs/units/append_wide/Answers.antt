use Rattle.pnm_read.proofs.Words.{rules, ◌≡◌, ◌++◌, ℕ, List, arith, inr, refl, ap, ◌∙◌, map-id, on_ok_weaker, YieldsList-from_map, items_from_extend}
use Rattle.pnm_read.proofs.Words.{wide_samples}
use Rattle.pnm_read.proofs.RawPartLaws.{wide_samples_of_pairs, at_no_error, within_of_appended, refused_not_within}
use Rattle.pnm_read.proofs.units.append_wide.Goals as goal

pub returns-then-not-are_words_within : goal.returns-then-not-are_words_within
returns-then-not-are_words_within c =
    let ran = items_from_extend c.extend.result c.extend.ensures.ran
    (YieldsList-from_map _ (λ n. n) (wide_samples_of_pairs c.args.bytes.now _ (cc) (cc)) c.map-samples.ensures.closure (λ x r q k. search rules)) in
    let items : c.extend.new.self.items ≡ c.args.row.now.items ++ wide_samples c.args.bytes.now =
    at_no_error _ c.extend.result (cc)
    (on_ok_weaker c.extend.result (λ h. h.0 ∙ ap (λ (l : List ℕ). c.args.row.now.items ++ l) (map-id (wide_samples c.args.bytes.now))) ran) in
    let within = within_of_appended c.args.row.now.items (wide_samples c.args.bytes.now) c.len-before.result c.args.maxval
    c.are_words_within.result (c.deref.ensures.value ∙ items) (omega arith) c.are_words_within.ensures in
    inr (refl, refused_not_within (wide_samples c.args.bytes.now) c.args.maxval c.are_words_within.result c.if-not-are_words_within.true within)

pub returns : goal.returns
returns c =
    let ran = items_from_extend c.extend.result c.extend.ensures.ran
    (YieldsList-from_map _ (λ n. n) (wide_samples_of_pairs c.args.bytes.now _ (cc) (cc)) c.map-samples.ensures.closure (λ x r q k. search rules)) in
    let items : c.extend.new.self.items ≡ c.args.row.now.items ++ wide_samples c.args.bytes.now =
    at_no_error _ c.extend.result (cc)
    (on_ok_weaker c.extend.result (λ h. h.0 ∙ ap (λ (l : List ℕ). c.args.row.now.items ++ l) (map-id (wide_samples c.args.bytes.now))) ran) in
    let within = within_of_appended c.args.row.now.items (wide_samples c.args.bytes.now) c.len-before.result c.args.maxval
    c.are_words_within.result (c.deref.ensures.value ∙ items) (omega arith) c.are_words_within.ensures in
    (items, within.0 cc)
