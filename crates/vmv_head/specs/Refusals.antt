-- The status and the number of the cause with which a request is refused.
use Rattle.std.specs.Prelude.{ℕ, List, codes}
use Rattle.vmv_head.specs.declared.refusal.Method.{Method}
use Rattle.vmv_head.specs.declared.refusal.Method.TheVariants.{Get, Post}
use Rattle.vmv_head.specs.declared.refusal.Refusal.{Refusal}
use Rattle.vmv_head.specs.declared.refusal.Refusal.TheVariants.{HeadTooLong, HeadUnread, TransferCoded, LengthUnread, LengthMissing, BodyTooLong, NoRoute, OtherMethod, MemberUnread, PartUnread, BodyUnread}

abbrev pub refusal_status : Refusal → ℕ
refusal_status HeadTooLong = 431
refusal_status HeadUnread = 400
refusal_status TransferCoded = 501
refusal_status LengthUnread = 400
refusal_status LengthMissing = 411
refusal_status BodyTooLong = 413
refusal_status NoRoute = 404
refusal_status (OtherMethod allowed) = 405
refusal_status MemberUnread = 400
refusal_status PartUnread = 400
refusal_status BodyUnread = 400

abbrev pub refusal_cause : Refusal → ℕ
refusal_cause HeadTooLong = 30
refusal_cause HeadUnread = 21
refusal_cause TransferCoded = 28
refusal_cause LengthUnread = 22
refusal_cause LengthMissing = 29
refusal_cause BodyTooLong = 27
refusal_cause NoRoute = 25
refusal_cause (OtherMethod allowed) = 26
refusal_cause MemberUnread = 23
refusal_cause PartUnread = 31
refusal_cause BodyUnread = 24

-- the name of a method, as requests and answers write it
abbrev pub method_name : Method → List ℕ
method_name Get = codes "GET"
method_name Post = codes "POST"
