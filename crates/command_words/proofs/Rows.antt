-- Worked words, computed by the definitions.
use Rattle.std.proofs.Common.{◌≡◌, [], ◌∷◌, Some, None, true, false, codes, refl}
use Rattle.job_words.specs.Text.{is_number}
use Rattle.clap.proofs.OnLiterals.{clap_on_literals}
use Rattle.command_words.specs.declared.order.Order.TheVariants.{Play, Build, Load, Gen}
use Rattle.command_words.specs.Orders.{order_of}

-- `play` stands alone
play : order_of (codes "play" ∷ []) ≡ Some Play
unfolding order_of clap_on_literals is_number
play = refl

play_with_more : order_of (codes "play" ∷ codes "x" ∷ []) ≡ None
unfolding order_of clap_on_literals is_number
play_with_more = refl

play_with_dashes : order_of (codes "play" ∷ codes "--" ∷ []) ≡ None
unfolding order_of clap_on_literals is_number
play_with_dashes = refl

no_words : order_of ([]) ≡ None
unfolding order_of clap_on_literals is_number
no_words = refl

unknown_word : order_of (codes "run" ∷ []) ≡ None
unfolding order_of clap_on_literals is_number
unknown_word = refl

-- options, flags and bits in any order
build_alone : order_of (codes "build" ∷ []) ≡ Some (Build 1 262144 (record { sift = false; store = false; blif = false; patterns = [] }))
unfolding order_of clap_on_literals is_number
build_alone = refl

build_with_all : order_of (codes "build" ∷ codes "--workers" ∷ codes "4" ∷ codes "--limit=5" ∷ codes "--sift" ∷ codes "11" ∷ codes "--store" ∷ codes "10" ∷ []) ≡ Some (Build 4 5 (record { sift = true; store = true; blif = false; patterns = (true ∷ true ∷ []) ∷ (true ∷ false ∷ []) ∷ [] }))
unfolding order_of clap_on_literals is_number
build_with_all = refl

build_with_flags : order_of (codes "build" ∷ codes "--blif" ∷ codes "1" ∷ codes "--store" ∷ []) ≡ Some (Build 1 262144 (record { sift = false; store = true; blif = true; patterns = (true ∷ []) ∷ [] }))
unfolding order_of clap_on_literals is_number
build_with_flags = refl

build_with_late_option : order_of (codes "build" ∷ codes "0" ∷ codes "--workers=2" ∷ []) ≡ Some (Build 2 262144 (record { sift = false; store = false; blif = false; patterns = (false ∷ []) ∷ [] }))
unfolding order_of clap_on_literals is_number
build_with_late_option = refl

build_with_dashes : order_of (codes "build" ∷ codes "--" ∷ codes "11" ∷ []) ≡ Some (Build 1 262144 (record { sift = false; store = false; blif = false; patterns = (true ∷ true ∷ []) ∷ [] }))
unfolding order_of clap_on_literals is_number
build_with_dashes = refl

build_with_last_dashes : order_of (codes "build" ∷ codes "--" ∷ []) ≡ Some (Build 1 262144 (record { sift = false; store = false; blif = false; patterns = [] }))
unfolding order_of clap_on_literals is_number
build_with_last_dashes = refl

option_behind_dashes : order_of (codes "build" ∷ codes "--" ∷ codes "--sift" ∷ []) ≡ None
unfolding order_of clap_on_literals is_number
option_behind_dashes = refl

load_with_bits : order_of (codes "load" ∷ codes "01" ∷ []) ≡ Some (Load ((false ∷ true ∷ []) ∷ []))
unfolding order_of clap_on_literals is_number
load_with_bits = refl

load_with_option : order_of (codes "load" ∷ codes "--sift" ∷ []) ≡ None
unfolding order_of clap_on_literals is_number
load_with_option = refl

gen_with_option : order_of (codes "gen" ∷ codes "--workers" ∷ codes "4" ∷ codes "8" ∷ []) ≡ Some (Gen 4 8)
unfolding order_of clap_on_literals is_number
gen_with_option = refl

gen_with_late_option : order_of (codes "gen" ∷ codes "8" ∷ codes "--workers=4" ∷ []) ≡ Some (Gen 4 8)
unfolding order_of clap_on_literals is_number
gen_with_late_option = refl

gen_with_dashes : order_of (codes "gen" ∷ codes "--" ∷ codes "8" ∷ []) ≡ Some (Gen 1 8)
unfolding order_of clap_on_literals is_number
gen_with_dashes = refl

gen_alone : order_of (codes "gen" ∷ []) ≡ None
unfolding order_of clap_on_literals is_number
gen_alone = refl

gen_with_two : order_of (codes "gen" ∷ codes "8" ∷ codes "8" ∷ []) ≡ None
unfolding order_of clap_on_literals is_number
gen_with_two = refl

-- an option has one value, stands once and by its whole name; a flag has none
option_twice : order_of (codes "build" ∷ codes "--workers" ∷ codes "1" ∷ codes "--workers" ∷ codes "1" ∷ []) ≡ None
unfolding order_of clap_on_literals is_number
option_twice = refl

flag_twice : order_of (codes "build" ∷ codes "--sift" ∷ codes "--sift" ∷ []) ≡ None
unfolding order_of clap_on_literals is_number
flag_twice = refl

abbreviated_option : order_of (codes "build" ∷ codes "--work" ∷ codes "1" ∷ []) ≡ None
unfolding order_of clap_on_literals is_number
abbreviated_option = refl

abbreviated_command : order_of (codes "bui" ∷ []) ≡ None
unfolding order_of clap_on_literals is_number
abbreviated_command = refl

option_without_value : order_of (codes "build" ∷ codes "--limit" ∷ []) ≡ None
unfolding order_of clap_on_literals is_number
option_without_value = refl

option_before_option : order_of (codes "build" ∷ codes "--limit" ∷ codes "--sift" ∷ []) ≡ None
unfolding order_of clap_on_literals is_number
option_before_option = refl

option_with_empty_value : order_of (codes "build" ∷ codes "--limit=" ∷ []) ≡ None
unfolding order_of clap_on_literals is_number
option_with_empty_value = refl

flag_with_value : order_of (codes "build" ∷ codes "--sift=true" ∷ []) ≡ None
unfolding order_of clap_on_literals is_number
flag_with_value = refl

-- help and version are no commands
help_option : order_of (codes "build" ∷ codes "--help" ∷ []) ≡ None
unfolding order_of clap_on_literals is_number
help_option = refl

short_help : order_of (codes "-h" ∷ []) ≡ None
unfolding order_of clap_on_literals is_number
short_help = refl

short_help_of_command : order_of (codes "gen" ∷ codes "-h" ∷ []) ≡ None
unfolding order_of clap_on_literals is_number
short_help_of_command = refl

help_command : order_of (codes "help" ∷ []) ≡ None
unfolding order_of clap_on_literals is_number
help_command = refl

version_option : order_of (codes "--version" ∷ []) ≡ None
unfolding order_of clap_on_literals is_number
version_option = refl

short_version : order_of (codes "-V" ∷ []) ≡ None
unfolding order_of clap_on_literals is_number
short_version = refl

-- numbers in range, without a sign or a leading zero, and bits
no_workers : order_of (codes "build" ∷ codes "--workers" ∷ codes "0" ∷ []) ≡ None
unfolding order_of clap_on_literals is_number
no_workers = refl

sixteen_workers : order_of (codes "build" ∷ codes "--workers" ∷ codes "16" ∷ []) ≡ Some (Build 16 262144 (record { sift = false; store = false; blif = false; patterns = [] }))
unfolding order_of clap_on_literals is_number
sixteen_workers = refl

seventeen_workers : order_of (codes "build" ∷ codes "--workers" ∷ codes "17" ∷ []) ≡ None
unfolding order_of clap_on_literals is_number
seventeen_workers = refl

limit_0 : order_of (codes "build" ∷ codes "--limit" ∷ codes "0" ∷ []) ≡ Some (Build 1 0 (record { sift = false; store = false; blif = false; patterns = [] }))
unfolding order_of clap_on_literals is_number
limit_0 = refl

greatest_limit : order_of (codes "build" ∷ codes "--limit" ∷ codes "8000000" ∷ []) ≡ Some (Build 1 8000000 (record { sift = false; store = false; blif = false; patterns = [] }))
unfolding order_of clap_on_literals is_number
greatest_limit = refl

limit_beyond : order_of (codes "build" ∷ codes "--limit" ∷ codes "8000001" ∷ []) ≡ None
unfolding order_of clap_on_literals is_number
limit_beyond = refl

leading_zero : order_of (codes "build" ∷ codes "--limit" ∷ codes "05" ∷ []) ≡ None
unfolding order_of clap_on_literals is_number
leading_zero = refl

positive_sign : order_of (codes "build" ∷ codes "--limit" ∷ codes "+5" ∷ []) ≡ None
unfolding order_of clap_on_literals is_number
positive_sign = refl

negative_sign : order_of (codes "build" ∷ codes "--limit" ∷ codes "-5" ∷ []) ≡ None
unfolding order_of clap_on_literals is_number
negative_sign = refl

gen_0 : order_of (codes "gen" ∷ codes "0" ∷ []) ≡ None
unfolding order_of clap_on_literals is_number
gen_0 = refl

gen_256 : order_of (codes "gen" ∷ codes "256" ∷ []) ≡ Some (Gen 1 256)
unfolding order_of clap_on_literals is_number
gen_256 = refl

gen_257 : order_of (codes "gen" ∷ codes "257" ∷ []) ≡ None
unfolding order_of clap_on_literals is_number
gen_257 = refl

other_bits : order_of (codes "load" ∷ codes "12" ∷ []) ≡ None
unfolding order_of clap_on_literals is_number
other_bits = refl

empty_bits : order_of (codes "load" ∷ codes "" ∷ []) ≡ None
unfolding order_of clap_on_literals is_number
empty_bits = refl
