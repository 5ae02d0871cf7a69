-- What the fields Office-Token do to the meaning of a request, computed.
use Rattle.std.proofs.Common.{◌≡◌, ℕ, Bool, List, [], ◌∷◌, codes, refl, inl}
use Rattle.std.specs.Prelude.{replicate}
use Rattle.httparse.specs.Grammar.{Field, RequestHead, crlf, trim_ows}
use Rattle.office_base.specs.Names.{is_bucket_name}
use Rattle.class_rules.specs.declared.class.Class.TheVariants.{Standard}
use Rattle.rules_core.specs.Configurations.{Configuration}
use Rattle.tariff.specs.Prices.{Prices}
use Rattle.office_types.specs.Tokens.{is_token}
use Rattle.office_types.specs.declared.command.Ask.TheVariants.{Command, Once, Query}
use Rattle.office_types.specs.declared.command.Command.TheVariants.{CreateBucket, SetRules, Put, Act, SetTariff, Close}
use Rattle.office_types.specs.declared.command.Query.TheVariants.{Tariff}
use Rattle.http_routes.specs.Targets as targets
use Rattle.http_routes.proofs.Computed.{there}
use Rattle.http_wire.specs.Messages.{token_fields}
use Rattle.http_asks.specs.Meaning.{asks, refuses, bad_method, bad_token, token_not_served, method_of, bucket_meant, with_fields, IsMeant}

-- a field that carries a token
abbrev carried : List ℕ → Field
carried value = record { name = codes "Office-Token"; raw = 32 ∷ value; end = crlf }

-- PUT /buckets/logs with these fields
abbrev put_head : List Field → RequestHead
put_head fields = record { blank = []; method = codes "PUT"; target = codes "/buckets/logs"; minor = 1; line_end = crlf; fields = fields; last = crlf }

-- ---- the fields

-- the name is compared without regard to case, and other fields are passed over
any_case : (raw : List ℕ) → token_fields (put_head ((record { name = codes "Host"; raw = raw; end = crlf }) ∷ (record { name = codes "OFFICE-token"; raw = raw; end = crlf }) ∷ []))
    ≡ (record { name = codes "OFFICE-token"; raw = raw; end = crlf }) ∷ []
any_case raw = refl

-- ---- a whole request

made_once : (body : List ℕ) (last : Bool)
    → IsMeant (record { head = put_head (carried (codes "t1") ∷ []); body = body; last = last }) (asks (Once (codes "t1") (CreateBucket (codes "logs"))))
unfolding method_of bucket_meant is_bucket_name is_token trim_ows
made_once body last =
    (asks (Command (CreateBucket (codes "logs"))), inl (targets.bucket (codes "logs"), there (codes "/buckets/logs") (targets.bucket (codes "logs")) refl, refl), refl)

-- ---- a command

put_once : with_fields (carried (codes "t1") ∷ []) (asks (Command (Put (codes "logs") (codes "a") 5 Standard []))) ≡ asks (Once (codes "t1") (Put (codes "logs") (codes "a") 5 Standard []))
unfolding is_token trim_ows
put_once = refl

closed_once : with_fields (carried (codes "t1") ∷ []) (asks (Command (Close 648))) ≡ asks (Once (codes "t1") (Close 648))
unfolding is_token trim_ows
closed_once = refl

without_token : with_fields [] (asks (Command (Close 648))) ≡ asks (Command (Close 648))
without_token = refl

-- also where both have the same value
two_fields : with_fields (carried (codes "t1") ∷ carried (codes "t1") ∷ []) (asks (Command (Close 648))) ≡ refuses bad_token
two_fields = refl

no_value : with_fields (carried [] ∷ []) (asks (Command (Close 648))) ≡ refuses bad_token
unfolding is_token trim_ows
no_value = refl

space_inside : with_fields (carried (codes "t 1") ∷ []) (asks (Command (Close 648))) ≡ refuses bad_token
unfolding is_token trim_ows
space_inside = refl

longest : with_fields (carried (replicate 64 97) ∷ []) (asks (Command (Close 648))) ≡ asks (Once (replicate 64 97) (Close 648))
unfolding is_token trim_ows
longest = refl

too_long : with_fields (carried (replicate 65 97) ∷ []) (asks (Command (Close 648))) ≡ refuses bad_token
unfolding is_token trim_ows
too_long = refl

-- ---- commands that may not carry one

on_rules : (name : List ℕ) (rules : Configuration) → with_fields (carried (codes "t1") ∷ []) (asks (Command (SetRules name rules))) ≡ refuses token_not_served
unfolding is_token trim_ows
on_rules name rules = refl

on_act : (name : List ℕ) → with_fields (carried (codes "t1") ∷ []) (asks (Command (Act name))) ≡ refuses token_not_served
unfolding is_token trim_ows
on_act name = refl

on_tariff : (prices : Prices) → with_fields (carried (codes "t1") ∷ []) (asks (Command (SetTariff prices))) ≡ refuses token_not_served
unfolding is_token trim_ows
on_tariff prices = refl

-- a value that is no token comes first
bad_before_not_served : (name : List ℕ) (rules : Configuration) → with_fields (carried (codes "t 1") ∷ []) (asks (Command (SetRules name rules))) ≡ refuses bad_token
unfolding is_token trim_ows
bad_before_not_served name rules = refl

-- ---- where the fields are passed over

on_query : with_fields (carried (codes "t1") ∷ []) (asks (Query Tariff)) ≡ asks (Query Tariff)
on_query = refl

two_on_query : with_fields (carried (codes "t 1") ∷ carried [] ∷ []) (asks (Query Tariff)) ≡ asks (Query Tariff)
two_on_query = refl

on_refusal : with_fields (carried [] ∷ []) (refuses bad_method) ≡ refuses bad_method
on_refusal = refl
