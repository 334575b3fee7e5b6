-- "A sound table". Each rule beside the words of document 01, or of request #101, that it says.
use Rattle.std.specs.Prelude.{ℕ, ◌+◌, Bool, not, ◌&&◌, ◌||◌, cond, List, leb, ltb, eqb, length, get_or}
use Rattle.common.specs.Counters.{width, highest}
use Rattle.common.specs.Ranges.{within, range, overlap}
use Rattle.common.specs.Tests.{implies, all, pairs, count, up_from}
use Rattle.modes.specs.Codes.{known_mode, known_state, pr, nbw, bw, canceling}
use Rattle.table.specs.declared.Lock.{Lock}
use Rattle.table.specs.Table.{Table, max_client, max_stripe, stripe_count, max_records, handle_of, number_of, waits, held, writes}

-- "numbers of held write locks lie in 1 to its last number; PR and waiting records have 0"
abbrev pub numbered : List ℕ → Lock → Bool
numbered lasts r = cond (held r && writes r) (within 1 (number_of r) (get_or lasts r.stripe 0)) (eqb (number_of r) 0)

-- "1 while a marked request waits and else 0"
abbrev pub well_marked : Lock → Bool
well_marked r = cond (waits r) (leb r.mark 1) (eqb r.mark 0)

-- "handles lie in 1 to handles issued; codes, clients, stripes and ranges are valid"
unfoldable pub valid : ℕ → List ℕ → Lock → Bool
valid issued lasts r =
    within 1 (handle_of r) issued
    && leb r.client max_client
    && leb r.stripe max_stripe
    && known_mode r.mode
    && known_state r.state
    && range r.first r.last
    && well_marked r
    && numbered lasts r

-- Two held locks of a stripe
abbrev pub together : Lock → Lock → Bool
together a b = (held a && held b) && eqb a.stripe b.stripe

-- "the one with the smaller number is a canceling NBW and the other is NBW or BW"
abbrev pub yields : Lock → Lock → Bool
yields a b = ltb (number_of a) (number_of b) && (eqb a.mode nbw && eqb a.state canceling) && within nbw b.mode bw

-- "numbers of held write locks of one stripe differ"
abbrev pub differ : Lock → Lock → Bool
differ a b = implies (together a b && (writes a && writes b)) (not (eqb (number_of a) (number_of b)))

-- "two held locks of a stripe with a common byte are both PR, or .."
abbrev pub share : Lock → Lock → Bool
share a b =
    implies (together a b && overlap a.first a.last b.first b.last)
    ((eqb a.mode pr && eqb b.mode pr) || (yields a b || yields b a))

-- Two records, the first of them earlier in the table: "records in rising handle", and the two rules above
unfoldable pub agree : Lock → Lock → Bool
agree a b = ltb (handle_of a) (handle_of b) && (differ a b && share a b)

-- "a stripe's last number plus its waiting write requests is at most handles issued"
abbrev pub wants : ℕ → Lock → Bool
wants s r = (waits r && writes r) && eqb r.stripe s

unfoldable pub room : ℕ → List ℕ → List Lock → ℕ → Bool
room issued lasts rs s = leb (get_or lasts s 0 + count (wants s) rs) issued

abbrev pub stripes : List ℕ
stripes = up_from 0 stripe_count

unfoldable pub sound : Table → Bool
sound t =
    leb t.issued (highest width)
    && eqb (length t.lasts) stripe_count
    && leb (length t.locks) max_records
    && all (valid t.issued t.lasts) t.locks
    && pairs agree t.locks
    && all (room t.issued t.lasts t.locks) stripes
