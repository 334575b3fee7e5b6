-- What the four messages refuse of a sound table: document 01, "Refusal numbers", 3 to 11, each list in the order in which it is judged.
use Rattle.std.specs.Prelude.{ℕ, Bool, not, ◌&&◌, List, [], ◌∷◌, eqb, ltb, leb, length}
use Rattle.common.specs.Counters.{width, highest}
use Rattle.common.specs.Ranges.{within, range}
use Rattle.common.specs.Refusals.{Rule, rule, first_hit}
use Rattle.common.specs.Tests.{any}
use Rattle.modes.specs.Codes.{known_mode, asked, canceling, bw, pw}
use Rattle.table.specs.declared.Lock.{Lock}
use Rattle.table.specs.Table.{Table, handle_of, max_client, max_stripe, max_records}
use Rattle.locks.specs.declared.Message.{Message}
use Rattle.locks.specs.declared.Message.TheVariants.{Request, Acknowledge, Downgrade, Release}

-- The record that a client's message names
abbrev pub named : ℕ → ℕ → Lock → Bool
named c h r = eqb (handle_of r) h && eqb r.client c

-- 11: "acknowledge not in state 2; downgrade unless canceling BW or PW"
abbrev pub may_acknowledge : ℕ → ℕ → Lock → Bool
may_acknowledge c h r = named c h r && eqb r.state asked

abbrev pub may_downgrade : ℕ → ℕ → Lock → Bool
may_downgrade c h r = named c h r && (eqb r.state canceling && within bw r.mode pw)

-- Request: 3 to 8
abbrev pub request_rules : Table → ℕ → ℕ → ℕ → ℕ → ℕ → List Rule
request_rules t c s m f l =
    rule 3 (ltb max_client c)
    ∷ rule 4 (ltb max_stripe s)
    ∷ rule 5 (not (known_mode m))
    ∷ rule 6 (not (range f l))
    ∷ rule 7 (leb (highest width) t.issued)
    ∷ rule 8 (leb max_records (length t.locks))
    ∷ []

-- The others: 3, 9, 10, 11. Each asks more of the one record with this handle; `may` is what 11 asks
abbrev pub naming_rules : Table → ℕ → ℕ → (Lock → Bool) → List Rule
naming_rules t c h may =
    rule 3 (ltb max_client c)
    ∷ rule 9 (not (any (λ r. eqb (handle_of r) h) t.locks))
    ∷ rule 10 (not (any (named c h) t.locks))
    ∷ rule 11 (not (any may t.locks))
    ∷ []

unfoldable pub rules : Table → Message → List Rule
rules t (Request c s m f l k) = request_rules t c s m f l
rules t (Acknowledge c h) = naming_rules t c h (may_acknowledge c h)
rules t (Downgrade c h) = naming_rules t c h (may_downgrade c h)
rules t (Release c h) = naming_rules t c h (named c h)

abbrev pub refusal : Table → Message → ℕ
refusal t m = first_hit (rules t m)
