-- What a user's own types name, and the words of the contracts of all that is passed on.
pub mod OwnTypes
-- types as words and keys, and names
pub use Rattle.board_layout.specs.Answer
pub use Rattle.board_layout.specs.Bytes
pub use Rattle.board_layout.specs.Keys
pub use Rattle.board_layout.specs.Layout
pub use Rattle.board_layout.specs.Types
pub use Rattle.board_layout.specs.Words
pub use Rattle.board_names.specs.Concept
pub use Rattle.board_names.specs.Configuration
pub use Rattle.board_names.specs.Extraction
pub use Rattle.board_names.specs.Names
pub use Rattle.board_names.specs.Table
-- a value between threads, and the calls on entries as step machines
pub use Rattle.board_cell_model.specs.OwedAccesses
pub use Rattle.board_cell.specs.Calls
pub use Rattle.board_cell.specs.History
pub use Rattle.board_cell.specs.Passes
pub use Rattle.board_cell.specs.Runs
pub use Rattle.board_cell.specs.Stages
pub use Rattle.board_cell.specs.Views
pub use Rattle.board_cell.specs.WholeCalls
pub use Rattle.board_ports.specs.EntryCalls
pub use Rattle.board_ports.specs.Loans
-- the tables of boards
pub use Rattle.board_model.specs.LawfulSession
pub use Rattle.board_model.specs.Replies
pub use Rattle.board_model.specs.TableCalls
pub use Rattle.board_model.specs.Tables
pub use Rattle.board_service.specs.Descriptions
pub use Rattle.board_service.specs.Domain as DomainCalls
pub use Rattle.board_service.specs.Entries
pub use Rattle.board_service.specs.Facts
pub use Rattle.board_service.specs.Suiting
pub use Rattle.board_service.specs.Told
pub use Rattle.board_seats.specs.Seats
-- typed ports, and what makes them
pub use Rattle.board_cells.specs.Cells
pub use Rattle.board_cells.specs.Ends
pub use Rattle.board_handles.specs.BoardEnds
pub use Rattle.board_handles.specs.Handles
pub use Rattle.board_handles.specs.LentForms as PortForms
pub use Rattle.board_domain.specs.Asked
pub use Rattle.board_domain.specs.Factories
pub use Rattle.board_domain.specs.LawsOfNodes
pub use Rattle.board_domain.specs.LentForms as BoardForms
pub use Rattle.board_domain.specs.ServiceHash
pub use Rattle.board_domain.specs.Services
pub use Rattle.board_domain.specs.Walks
pub use Rattle.board_typed.specs.Laws as LawsOfCalls
pub use Rattle.board_typed.specs.Order
pub use Rattle.board_typed.specs.Runs as RunsOfCalls
-- events
pub use Rattle.board_event_model.specs.EventMemory
pub use Rattle.board_event_model.specs.Ids
pub use Rattle.board_event_model.specs.NotifyCalls
pub use Rattle.board_event_model.specs.WaitCalls
pub use Rattle.board_event_core.specs.EventTable
pub use Rattle.board_event_core.specs.IdSets
pub use Rattle.board_event_core.specs.Memories
pub use Rattle.board_event_core.specs.Passing
pub use Rattle.board_event_core.specs.Steps
pub use Rattle.board_event_core.specs.Turns
pub use Rattle.board_event_core.specs.Waits
pub use Rattle.board_event.specs.Ends as EventEnds
pub use Rattle.board_event.specs.LentForms as EventForms
pub use Rattle.board_event.specs.TypedCalls as EventCalls
-- concepts
pub use Rattle.board_concepts.specs.Attributes
pub use Rattle.board_concepts.specs.DescriptionSpelling
pub use Rattle.board_store.specs.Reading
pub use Rattle.board_store.specs.Statics
pub use Rattle.board_store.specs.Storage
pub use Rattle.board_store.specs.TypedCalls as StorageCalls
pub use Rattle.board_files.specs.Changes
pub use Rattle.board_files.specs.Files
pub use Rattle.board_files.specs.Life
pub use Rattle.board_files.specs.Storage as FileStorage
pub use Rattle.board_monitoring.specs.Monitors
pub use Rattle.board_monitoring.specs.TypedCalls as MonitoringCalls
pub use Rattle.board_channel.specs.Channels
pub use Rattle.board_channel.specs.Queue
pub use Rattle.board_channel.specs.TypedCalls as ChannelCalls
