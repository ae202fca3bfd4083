-- The exchanges of a link in memory, one call on.
use Rattle.std.proofs.Common.{◌≡◌, ℕ, ◌+◌, List, [], ◌∷◌, ◌++◌, length, drop, suc, arith, refl, sym, ap, ◌∙◌}
use Rattle.std.specs.Prelude.{Vec, nat_le, if◌then◌else◌, Bool, true, false}
use Rattle.std.specs.declared.alloc.Global.{Global}
use Rattle.std.proofs.lemmas.List.{drop-drop}
use Rattle.io_core.specs.Links.{Reply, Long, Nothing}
use Rattle.io_core.specs.Keeping.{transcript_of, replied_count}
use Rattle.io_core.specs.MemLink.{sent_bytes, onto_heard, heard_of}
use Rattle.io_core.specs.Rooms.{first_of}
use Rattle.io_core.specs.declared.kept.Past.{Past}
use Rattle.io_core.specs.declared.kept.Past.TheVariants.{Replied, Unheard}

onto_reply : (bytes reply : List ℕ) (room : ℕ) (more : List (List ℕ)) → onto_heard bytes (heard_of reply room) more ≡ bytes ∷ more
onto_reply bytes reply room more = by (nat_le (length reply) room)
  where
    by : (test : Bool) → onto_heard bytes (if test then Reply reply else Long) more ≡ bytes ∷ more
    by true = refl
    by false = refl

pub sent_bytes-transcript_of : (past : List Past) (sent replies : List (List ℕ)) → replied_count past ≡ length sent → sent_bytes (transcript_of past sent replies) ≡ sent
sent_bytes-transcript_of [] [] replies e = refl
sent_bytes-transcript_of [] (x ∷ sent) replies e = absurd (omega (arith, e))
sent_bytes-transcript_of (Replied port room ∷ past) [] replies e = absurd (omega (arith, e))
sent_bytes-transcript_of (Replied port room ∷ past) (x ∷ sent) replies e =
    onto_reply x (first_of replies) room (sent_bytes (transcript_of past sent (drop 1 replies)))
    ∙ ap (λ xs. x ∷ xs) (sent_bytes-transcript_of past sent (drop 1 replies) (omega (arith, e)))
sent_bytes-transcript_of (Unheard port bytes ∷ past) sent replies e = sent_bytes-transcript_of past sent replies e

-- one more that takes the next reply
pub transcript_of-replied : (past : List Past) (sent replies : List (List ℕ)) (port room : ℕ) (x reply : List ℕ) → replied_count past ≡ length sent →
    reply ≡ first_of (drop (length sent) replies) →
    transcript_of (past ++ Replied port room ∷ []) (sent ++ x ∷ []) replies ≡ transcript_of past sent replies ++ record { port = port; sent = x; heard = heard_of reply room } ∷ []
transcript_of-replied [] [] replies port room x reply e is = rw is refl
transcript_of-replied [] (y ∷ sent) replies port room x reply e is = absurd (omega (arith, e))
transcript_of-replied (Replied p r ∷ past) [] replies port room x reply e is = absurd (omega (arith, e))
transcript_of-replied (Replied p r ∷ past) (y ∷ sent) replies port room x reply e is =
    ap (λ more. record { port = p; sent = y; heard = heard_of (first_of replies) r } ∷ more)
    (transcript_of-replied past sent (drop 1 replies) port room x reply (omega (arith, e)) (is ∙ ap first_of (later (length sent) replies)))
  where
    later : (n : ℕ) (xs : List (List ℕ)) → drop (suc n) xs ≡ drop n (drop 1 xs)
    later n xs = let e : 1 + n ≡ suc n = omega arith in sym (drop-drop n 1 xs ∙ ap (λ k. drop k xs) e)
transcript_of-replied (Unheard p bytes ∷ past) sent replies port room x reply e is =
    ap (λ more. record { port = p; sent = bytes.items; heard = Nothing } ∷ more) (transcript_of-replied past sent replies port room x reply e is)

-- one more that failed
pub transcript_of-unheard : (past : List Past) (sent replies : List (List ℕ)) (port : ℕ) (bytes : Vec ℕ Global) →
    transcript_of (past ++ Unheard port bytes ∷ []) sent replies ≡ transcript_of past sent replies ++ record { port = port; sent = bytes.items; heard = Nothing } ∷ []
transcript_of-unheard [] sent replies port bytes = refl
transcript_of-unheard (Replied p r ∷ past) sent replies port bytes =
    ap (λ more. record { port = p; sent = first_of sent; heard = heard_of (first_of replies) r } ∷ more) (transcript_of-unheard past (drop 1 sent) (drop 1 replies) port bytes)
transcript_of-unheard (Unheard p other ∷ past) sent replies port bytes =
    ap (λ more. record { port = p; sent = other.items; heard = Nothing } ∷ more) (transcript_of-unheard past sent replies port bytes)

pub replied_count-replied : (past : List Past) (port room : ℕ) → replied_count (past ++ Replied port room ∷ []) ≡ replied_count past + 1
replied_count-replied [] port room = refl
replied_count-replied (Replied p r ∷ past) port room = ap (λ n. n + 1) (replied_count-replied past port room)
replied_count-replied (Unheard p bytes ∷ past) port room = replied_count-replied past port room

pub replied_count-unheard : (past : List Past) (port : ℕ) (bytes : Vec ℕ Global) → replied_count (past ++ Unheard port bytes ∷ []) ≡ replied_count past
replied_count-unheard [] port bytes = refl
replied_count-unheard (Replied p r ∷ past) port bytes = ap (λ n. n + 1) (replied_count-unheard past port bytes)
replied_count-unheard (Unheard p other ∷ past) port bytes = replied_count-unheard past port bytes
