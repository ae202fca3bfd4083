use Rattle.std.proofs.Common.{◌≡◌, ◌+◌, ◌++◌, List, [], ◌∷◌, ℕ, length, drop, sym, ◌∙◌, ap, subst, arith, append_assoc, length-append, Ok}
use Rattle.std.proofs.lemmas.List.{append-nil}
use Rattle.tx_model.specs.declared.meta.Meta.{Meta}
use Rattle.tx_model.specs.Framing.{meta_len}
use Rattle.record_frame.specs.Reading.{meta_at}
use Rattle.tx_model.specs.Frames.{joined, frames_in}
use Rattle.tx_model.specs.Contents.{entries_in}
use Rattle.std.specs.Prelude.{All}
use Rattle.std.specs.List.{flat_map}
use Rattle.std.proofs.lemmas.List.{length-take-le}
use Rattle.std.proofs.lemmas.List.Elements.{All-push}
use Rattle.std.proofs.lemmas.Grind.{flat_map-append}
use Rattle.tx_model.specs.Spelling.{IsMeta, meta_frame}
use Rattle.meta_journal.proofs.Framed.{entries_in-step, ends-step, none-left}
use Rattle.meta_journal.proofs.loading.decode_all.Goals as goal

-- one entry more
place-more : (es : List Meta) (e : Meta) → length (flat_map meta_frame (es ++ e ∷ [])) ≡ length (flat_map meta_frame es) + length (meta_frame e)
place-more es e =
    ap length (flat_map-append meta_frame es (e ∷ [])) ∙ length-append (flat_map meta_frame es) (meta_frame e ++ []) ∙ ap (λ (l : List ℕ). length (flat_map meta_frame es) + length l) (append-nil (meta_frame e))

pub frames-preserved : goal.frames-preserved
frames-preserved c =
    let inv = c.frames.invariant in
    let is : meta_at c.frames.rest.now ≡ Ok (c.in-Ok.entry, c.in-Ok.len) = sym c.decode_meta.ensures.exact ∙ c.in-Ok.is in
    let back : c.split_at.result.1.now ≡ drop c.in-Ok.len c.frames.rest.now = c.split_at.ensures.back in
    let ends = ends-step c.frames.rest.now c.in-Ok.entry c.in-Ok.len is in
    let long : length c.split_at.result.1.now + c.in-Ok.len ≡ length c.frames.rest.now = omega (arith, c.split_at.ensures.back_len, ends.1) in
    let later : length (joined (frames_in meta_len c.frames.rest.now)) ≡ c.in-Ok.len + length (joined (frames_in meta_len c.split_at.result.1.now)) = ends.0 ∙ ap (λ (l : List ℕ). c.in-Ok.len + length (joined (frames_in meta_len l))) (sym back) in
    let spelled = c.in-Ok.ensures.found in
    let frame : length (meta_frame c.in-Ok.entry) ≡ c.in-Ok.len = ap length (sym spelled.spelled.spelled) ∙ length-take-le c.in-Ok.len c.frames.rest.now spelled.within in
    record {
      entries =
          ap (λ (l : List Meta). l ++ entries_in c.split_at.result.1.now) c.in_ok-push-in-Ok.ensures.items
          ∙ append_assoc c.frames.entries.items (c.in-Ok.entry ∷ []) (entries_in c.split_at.result.1.now)
          ∙ ap (λ (l : List ℕ). c.frames.entries.items ++ c.in-Ok.entry ∷ entries_in l) back
          ∙ ap (λ (l : List Meta). c.frames.entries.items ++ l) (sym (entries_in-step c.frames.rest.now c.in-Ok.entry c.in-Ok.len is))
          ∙ inv.entries;
      within = omega (arith, long, inv.within);
      end = omega (arith, long, later, inv.end);
      valid = subst (λ (l : List Meta). All IsMeta l) (sym c.in_ok-push-in-Ok.ensures.items) (All-push IsMeta c.frames.entries.items c.in-Ok.entry inv.valid spelled.spelled.valid);
      places = omega (arith, long, inv.places, ap (λ (l : List Meta). length (flat_map meta_frame l)) c.in_ok-push-in-Ok.ensures.items, place-more c.frames.entries.items c.in-Ok.entry, frame);
    }

pub returns-in-Err-clause-entries : goal.returns-in-Err-clause-entries
returns-in-Err-clause-entries c =
    let none = none-left c.frames.rest.now _ (sym c.decode_meta.ensures.exact ∙ c.in-Err.is) in
    sym (append-nil c.frames.entries.items) ∙ ap (λ (l : List Meta). c.frames.entries.items ++ l) (sym none.0) ∙ c.frames.invariant.entries

pub returns-in-Err-clause-end : goal.returns-in-Err-clause-end
returns-in-Err-clause-end c =
    let none = none-left c.frames.rest.now _ (sym c.decode_meta.ensures.exact ∙ c.in-Err.is) in
    omega (arith, none.1, c.frames.invariant.end, c.frames.invariant.within)
